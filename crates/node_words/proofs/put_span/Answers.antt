-- `node_words::put_span` meets its contract: the words are put where they go. Assumes nothing.
use Rattle.node_words.proofs.put_span.Goals as goal

pub returns : goal.returns
returns c = rw (← c.span_words-words.ensures) c.put_words.ensures
