-- `node::kadzhomir_read` meets its contract: the answer of the call beneath, in words. Assumes nothing.
use Rattle.node.proofs.kadzhomir_read.Goals as goal

pub returns : goal.returns
returns c = rw c.read-found.ensures at c.put_found.ensures
