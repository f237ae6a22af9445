-- `node::kadzhomir_walk` meets its contract: the answer of the call beneath, in words. Assumes nothing.
use mathlib.Core.Path.{ap, ◌∙◌}
use Rattle.node_words.specs.Words.{walked_words, number_at}
use Rattle.node.proofs.kadzhomir_walk.Goals as goal

pub returns : goal.returns
returns c =
    let walk = c.walk-found.ensures in
    record { number = c.number_at.ensures ∙ ap number_at walk; words = c.walk_words.ensures ∙ ap walked_words walk }
