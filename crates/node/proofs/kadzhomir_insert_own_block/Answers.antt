-- `node::kadzhomir_insert_own_block` meets its contract: the store, the answer in words, the log and the index. Assumes nothing.
use Rattle.node.proofs.kadzhomir_insert_own_block.Goals as goal

pub returns : goal.returns
returns c =
    let insert = rw c.store_of-s.ensures at c.insert_own_block-r.ensures in
    record { gives = rw insert.answer at c.put_inserted.ensures; log = insert.log; rows = insert.rows }
