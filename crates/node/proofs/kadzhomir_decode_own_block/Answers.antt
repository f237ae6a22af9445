-- `node::kadzhomir_decode_own_block` meets its contract: the answer of the call beneath, in words. Assumes nothing.
use Rattle.node.proofs.kadzhomir_decode_own_block.Goals as goal

pub returns : goal.returns
returns c = rw c.decode-decoded.ensures at c.put_own_block.ensures
