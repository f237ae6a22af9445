-- `filters::rounds_end` meets its contract: the loop passes the rows of as many rounds. Assumes nothing.
use Rattle.filters.proofs.Rounds.{Passing}
use Rattle.filters.proofs.rounds_end.Given as goal

abbrev pub invariant-loop-i : goal.invariant-loop-i
invariant-loop-i l = Passing l.rows l.limit l.i l.left l.last
