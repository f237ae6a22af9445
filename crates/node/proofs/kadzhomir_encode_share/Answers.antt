-- `node::kadzhomir_encode_share` meets its contract: the answer of the call beneath, in words. Assumes nothing.
use Rattle.node_given.proofs.Encoding.{encodes_words}
use Rattle.node.proofs.kadzhomir_encode_share.Goals as goal

pub returns : goal.returns
returns c = encodes_words c.encode_share-encoded.ensures c.put_encoded.ensures
