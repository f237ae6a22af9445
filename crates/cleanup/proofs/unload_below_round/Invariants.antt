-- `cleanup::unload_below_round` meets its contract: rounds ascend, so behind the first that is past t nothing is left to unload. Assumes nothing.
use Rattle.cleanup.proofs.Unloading.{Clearing}
use Rattle.cleanup.proofs.unload_below_round.Given as goal

abbrev pub invariant-loop-i : goal.invariant-loop-i
invariant-loop-i l = Clearing l.t l.initial.index l.count l.index l.unloaded l.i
