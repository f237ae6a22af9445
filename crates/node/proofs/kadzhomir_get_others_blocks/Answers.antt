-- `node::kadzhomir_get_others_blocks` meets its contract: the store, the answer in words, and the rows. Assumes nothing.
use Rattle.node.proofs.kadzhomir_get_others_blocks.Goals as goal

pub returns : goal.returns
returns c =
    let lookup = rw c.view_of-view.ensures at c.get_others_blocks-r.ensures in
    record { gives = rw lookup.answer at c.put_looked.ensures; rows = lookup.words }
