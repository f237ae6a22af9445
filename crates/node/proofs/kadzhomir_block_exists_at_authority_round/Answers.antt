-- `node::kadzhomir_block_exists_at_authority_round` meets its contract: the answer of the call beneath, in words. Assumes nothing.
use Rattle.node.proofs.kadzhomir_block_exists_at_authority_round.Goals as goal

pub returns : goal.returns
returns c = rw (c.block_exists_at_authority_round-told.ensures, c.view_of-view.ensures) at c.put_told.ensures
