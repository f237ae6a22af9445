-- `node::kadzhomir_include_at` meets its contract: the answer of the call beneath, in words. Assumes nothing.
use Rattle.node.proofs.kadzhomir_include_at.Goals as goal

pub returns : goal.returns
returns c = rw c.include_at-decoded.ensures at c.put_decoded.ensures
