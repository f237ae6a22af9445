-- `node_store::digest_at` meets its contract: four words' bytes, one behind the other. Assumes nothing.
use Rattle.node_store.proofs.Stores.{digest_put}
use Rattle.node_store.proofs.digest_at.Goals as goal

pub returns : goal.returns
returns c =
    let a = c.args in
    digest_put a.words.now a.at (rw c.word_at.ensures at c.put_be-a.ensures) (rw c.word_at-2.ensures at c.put_be-b.ensures)
    (rw c.word_at-3.ensures at c.put_be-c.ensures) (rw c.word_at-4.ensures at c.put_be.ensures)
