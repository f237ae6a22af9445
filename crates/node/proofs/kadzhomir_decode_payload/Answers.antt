-- `node::kadzhomir_decode_payload` meets its contract: the answer of the call beneath, in words. Assumes nothing.
use Rattle.types.specs.Records.{payload}
use Rattle.node.proofs.kadzhomir_decode_payload.Goals as goal

pub returns : goal.returns
unfolding payload
returns c = rw c.decode_list-decoded.ensures at c.put_payload.ensures
