-- `node_store::put_store` meets its contract: the summary stands behind its four words. Assumes nothing.
use Rattle.node_store.proofs.Stores.{store_put}
use Rattle.node_store.proofs.put_store.Goals as goal

pub returns : goal.returns
returns c =
    let a = c.args in
    store_put a.s a.out.now c.put_words.ensures c.put_summary.ensures.0
