-- `node::kadzhomir_block_exists` meets its contract: the answer of the call beneath, in words. Assumes nothing.
use Rattle.node.proofs.kadzhomir_block_exists.Goals as goal

pub returns : goal.returns
returns c = rw (c.block_exists-told.ensures, c.reference_at-x.ensures, c.view_of-view.ensures) at c.put_told.ensures
