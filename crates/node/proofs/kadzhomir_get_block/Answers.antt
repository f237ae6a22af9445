-- `node::kadzhomir_get_block` meets its contract: the store, the answer in words, and the rows. Assumes nothing.
use Rattle.node.proofs.kadzhomir_get_block.Goals as goal

pub returns : goal.returns
returns c =
    let lookup = rw (c.view_of-view.ensures, c.reference_at-x.ensures) at c.get_block-r.ensures in
    record { gives = rw lookup.answer at c.put_looked.ensures; rows = lookup.words }
