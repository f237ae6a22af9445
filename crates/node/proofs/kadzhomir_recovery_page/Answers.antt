-- `node::kadzhomir_recovery_page` meets its contract: the number, the text and the tables. Assumes nothing.
use mathlib.Core.Path.{ap, ◌∙◌}
use Rattle.refusal.specs.Refusals.{number_of}
use Rattle.node.proofs.kadzhomir_recovery_page.Goals as goal

pub returns : goal.returns
returns c =
    let page = c.recovery_page-r.ensures in
    record { number = c.number_of.ensures ∙ ap number_of page.refusal; text = page.text; words = page.words }
