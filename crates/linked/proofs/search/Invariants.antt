-- `linked::search` meets its contract: the loop goes down the indexed rounds. The measure is how many rows are left. Assumes nothing.
use Rattle.linked.proofs.Going.{Going}
use Rattle.linked.proofs.search.Given as goal

abbrev pub invariant-loop-to : goal.invariant-loop-to
invariant-loop-to l =
    Going l.log.exponent l.log.image.now l.log.used l.later l.earlier l.high l.rows l.initial.work l.to l.parents l.above l.unloaded l.found
    l.work

abbrev pub decreases-loop-to : goal.decreases-loop-to
decreases-loop-to l = l.to
