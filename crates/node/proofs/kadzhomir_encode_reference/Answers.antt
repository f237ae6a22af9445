-- `node::kadzhomir_encode_reference` meets its contract: the answer of the call beneath, in words. Assumes nothing.
use Rattle.node_given.proofs.Encoding.{encodes_words}
use Rattle.node.proofs.kadzhomir_encode_reference.Goals as goal

pub returns : goal.returns
returns c = encodes_words (rw c.reference_at-x.ensures at c.encode_record-encoded.ensures) c.put_encoded.ensures
