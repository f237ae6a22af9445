-- `node::kadzhomir_get_blocks_at_authority_round` meets its contract: the store, the answer in words, and the rows. Assumes nothing.
use Rattle.node.proofs.kadzhomir_get_blocks_at_authority_round.Goals as goal

pub returns : goal.returns
returns c =
    let lookup = rw c.view_of-view.ensures at c.get_blocks_at_authority_round-r.ensures in
    record { gives = rw lookup.answer at c.put_looked.ensures; rows = lookup.words }
