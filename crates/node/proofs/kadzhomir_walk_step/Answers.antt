-- `node::kadzhomir_walk_step` meets its contract: the answer of the call beneath, in words. Assumes nothing.
use Rattle.node.proofs.kadzhomir_walk_step.Goals as goal

pub returns : goal.returns
returns c = rw c.walk_step-step.ensures at c.put_step.ensures
