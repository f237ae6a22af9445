-- `rows::find` meets its contract. Assumes nothing.
use mathlib.Core.Path.{◌≡◌, sym, ◌∙◌}
use Rattle.std.proofs.Common.{rules}
use Rattle.std.proofs.lemmas.Fn.{always_returns_same}
use Rattle.rows.specs.Rows.{key, compared}
use Rattle.rows.proofs.Searching.{no_row_lem, last_below, last_at, last_above, searched}
use Rattle.rows.proofs.find.Goals as goal

pub returns-in_default : goal.returns-in_default
returns-in_default c = no_row_lem c.args.k _ c.in_default.ensures.cases

pub returns-in-Less : goal.returns-in-Less
returns-in-Less c =
    last_below c.args.k _ _ _ c.in-Some.ensures.cases.0 c.requires (sym c.compare_key.ensures ∙ c.in-Less.is)

pub returns-in-Equal : goal.returns-in-Equal
returns-in-Equal c =
    last_at c.args.k _ _ _ c.in-Some.ensures.cases.0 c.requires (sym c.compare_key.ensures ∙ c.in-Equal.is)

pub returns-in-Greater : goal.returns-in-Greater
returns-in-Greater c =
    let above = last_above c.args.k _ _ _ c.in-Some.ensures.cases.0 c.requires (sym c.compare_key.ensures ∙ c.in-Greater.is) in
    let found = c.binary_search_by.ensures.position (λ row. compared (key row) c.args.k) (always_returns_same _ (λ a r. r ≡ compared (key a.0.now) c.args.k) _ (λ a r q k. search rules)) in
    searched c.args.k _ c.binary_search_by.result above.0 c.binary_search_by.ensures.bound found ∙ above.1
