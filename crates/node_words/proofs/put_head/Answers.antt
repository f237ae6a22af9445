-- `node_words::put_head` meets its contract: the counts stand behind the walk's answer. Assumes nothing.
use Rattle.node_words.proofs.Words.{behind, long_walked}
use Rattle.node_words.specs.Words.{walked_words, head_words}
use Rattle.node_words.proofs.put_head.Goals as goal

pub returns : goal.returns
unfolding head_words
returns c =
    let a = c.args in
    behind a.out.now 0 5 (walked_words a.r.walked) _ (long_walked a.r.walked)
    (rw (← c.walk_words-words.ensures) c.put_words.ensures) c.put_words-2.ensures
