-- `includes::includes` meets its contract: the loop compares one include after the other. Assumes nothing.
use Rattle.includes.proofs.Including.{Including}
use Rattle.includes.proofs.includes.Given as goal

abbrev pub invariant-loop-i : goal.invariant-loop-i
invariant-loop-i l = Including l.block l.reference l.n l.at l.i
