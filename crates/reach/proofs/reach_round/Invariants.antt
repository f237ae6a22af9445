-- `reach::reach_round` meets its contract: the loop reads the round's blocks and marks those that a parent includes. Assumes nothing.
use Prim.Native.Nat.{◌+◌}
use lib.ListN.{length}
use Rattle.reach.specs.Reaching.{parents_of}
use Rattle.reach.proofs.Reaching.{Reaching}
use Rattle.reach.proofs.reach_round.Given as goal

abbrev pub invariant-loop-i : goal.invariant-loop-i
invariant-loop-i l =
    Reaching l.log l.earlier (parents_of l.log.image.now l.later l.parents (l.from + length l.rows) l.initial.work) l.rows l.from
    l.initial.work l.work l.i l.unloaded l.found
