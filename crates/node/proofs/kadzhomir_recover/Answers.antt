-- `node::kadzhomir_recover` meets its contract: the answer in words, and the tables. Assumes nothing.
use mathlib.Core.Path.{ap, ◌∙◌}
use Rattle.recovered.specs.declared.Recovered.{Recovered}
use Rattle.node_words.specs.Words.{number_at, recovered_words}
use Rattle.node.proofs.kadzhomir_recover.Goals as goal

pub returns : goal.returns
returns c =
    let recover = c.recover-r.ensures in
    record {
      number = c.number_at.ensures ∙ ap (λ (r : Recovered). number_at r.walked) recover.answer;
      words = c.put_recovered.ensures ∙ ap recovered_words recover.answer;
      rows = recover.words;
    }
