-- `node::kadzhomir_encode_block` meets its contract: the answer of the call beneath, in words. Assumes nothing.
use Rattle.node_given.proofs.Encoding.{encodes_words}
use Rattle.node.proofs.kadzhomir_encode_block.Goals as goal

pub returns : goal.returns
returns c = encodes_words (rw c.block_fields-fields.ensures at c.encode_block-encoded.ensures) c.put_encoded.ensures
