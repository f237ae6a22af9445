-- `store::check_rows` meets its contract. Assumes nothing.
use mathlib.Core.Path.{◌≡◌, sym, ap, ◌∙◌}
use borrow.Author.Tests.{le-ltb}
use Rattle.laws.specs.Pick.{pick}
use Rattle.std.proofs.Common.{rules}
use Rattle.std.proofs.lemmas.Fn.{always_returns_same}
use Rattle.store.proofs.Authorities.{in_order, passes, pass_answers, first_not_below, no_rows_pass}
use Rattle.store.proofs.check_rows.Goals as goal

pub returns-in_default : goal.returns-in_default
returns-in_default c = no_rows_pass c.args.size c.args.rows.now c.in_default.ensures.cases

pub returns-then-first-size : goal.returns-then-first-size
unfolding pick
returns-then-first-size c =
    let size = c.args.size in
    pass_answers size c.in-Some.first.now c.in-Some.field-0-1.now c.args.rows.now c.in-Some.ensures.cases.0 c.if-first-size.true c.is_sorted_by.result
    (c.is_sorted_by.ensures.cases (in_order size) (always_returns_same _ (λ a r. r ≡ in_order size a.0.now a.1.0.now) _ (λ a r q k. search rules)))

pub returns-else-first-size : goal.returns-else-first-size
returns-else-first-size c =
    let r = c.in-Some.first.now in
    let over = le-ltb _ _ c.if-first-size.false in
    over ∙ first_not_below c.args.size r c.in-Some.field-0-1.now over ∙ ap (passes c.args.size) (sym c.in-Some.ensures.cases.0)
