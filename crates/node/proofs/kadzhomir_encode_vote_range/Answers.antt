-- `node::kadzhomir_encode_vote_range` meets its contract: the answer of the call beneath, in words. Assumes nothing.
use Rattle.node_given.proofs.Encoding.{encodes_words}
use Rattle.node.proofs.kadzhomir_encode_vote_range.Goals as goal

pub returns : goal.returns
returns c = encodes_words (rw c.range_of-x.ensures at c.encode_vote_range-encoded.ensures) c.put_encoded.ensures
