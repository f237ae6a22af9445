-- `node_store::put_opened` meets its contract: the words before the last seen rounds, and those rounds. Assumes nothing.
use Rattle.node_store.specs.Stores.{words_at}
use Rattle.node_store.proofs.Stores.{opened_put}
use Rattle.node_store.proofs.put_opened.Goals as goal

pub returns : goal.returns
unfolding words_at
returns c =
    let a = c.args in
    opened_put a.size a.own a.recovered.now a.out.now
    (rw (c.word_at.ensures, c.word_at-2.ensures, c.word_at-3.ensures, c.word_at-4.ensures, c.word_at-5.ensures, c.word_at-6.ensures, c.word_at-7.ensures, c.word_at-8.ensures, c.word_at-9.ensures) at c.put_words.ensures)
    (rw c.rounds_at-rounds.ensures at c.put_words-2.ensures)
