-- `rows::compare_key` meets its contract. Assumes nothing.
use Rattle.rows.proofs.Comparing.{Comparing}
use Rattle.rows.proofs.compare_key.Given as goal

abbrev pub invariant-loop-j : goal.invariant-loop-j
invariant-loop-j _ l = Comparing l.row l.k l.j
