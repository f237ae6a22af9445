-- `reach::any_includes` meets its contract: the loop asks one block after the other. Assumes nothing.
use Rattle.reach.proofs.Asking.{Asking}
use Rattle.reach.proofs.any_includes.Given as goal

abbrev pub invariant-loop-row : goal.invariant-loop-row
invariant-loop-row l = Asking l.image l.parents l.reference l.row-index
