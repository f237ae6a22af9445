-- `query::collect` meets its contract: the loop reads the blocks of the rows that it chooses. Assumes nothing.
use Rattle.query.proofs.Collecting.{Collecting}
use Rattle.query.proofs.collect.Given as goal

abbrev pub invariant-loop-row : goal.invariant-loop-row
invariant-loop-row l = Collecting l.log l.author l.limit l.rows l.row-index l.n l.unloaded l.out
