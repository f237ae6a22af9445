-- `node::kadzhomir_append` meets its contract: the answer of the call beneath, in words. Assumes nothing.
use mathlib.Core.Path.{ap, ◌∙◌}
use Rattle.refusal.specs.Refusals.{number_of}
use Rattle.node_log.specs.Answers.{append_words}
use Rattle.node.proofs.kadzhomir_append.Goals as goal

pub returns : goal.returns
returns c =
    let a = c.args in
    let append = c.append-found.ensures in
    record {
      number = c.number_of.ensures ∙ ap number_of append.value;
      words = c.append_words.ensures ∙ ap (append_words a.used) append.value;
      log = append.image_after;
    }
