-- `linked::answer` meets its contract: each return is an answer of the definition. Assumes nothing.
use mathlib.Core.Path.{sym, ◌∙◌}
use Prim.Native.Nat.{◌/◌}
use native.Mathlib.Omega.{arith}
use lib.ListN.{length}
use Rattle.refusal.proofs.Numbers.{handed_on}
use Rattle.store.specs.Store.{indexed}
use Rattle.store.proofs.Checked.{view_checked}
use Rattle.rows.proofs.Rows.{length_rows_of}
use Rattle.linked.proofs.Answering.{refused_call, refused_later, later_parses, refused_few, refused_search, linked_answer_lem}
use Rattle.linked.proofs.answer.Goals as goal

pub returns-in_err-check-clause-value : goal.returns-in_err-check-clause-value
returns-in_err-check-clause-value c =
    let a = c.args in
    handed_on c.from_residual.result c.from_residual.ensures ∙ refused_call a.view.now a.later.now a.earlier (length a.work.now / 8) c.in_err-check.ensures

pub returns-in_default-clause-value : goal.returns-in_default-clause-value
returns-in_default-clause-value c =
    let a = c.args in
    refused_later a.view.now a.later.now a.earlier (length a.work.now / 8) c.in_ok-check.ensures c.in_default.ensures

pub returns-then-work-view-clause-value : goal.returns-then-work-view-clause-value
returns-then-work-view-clause-value c =
    let a = c.args in
    refused_few a.view.now a.later.now a.earlier (length a.work.now / 8) c.in_ok-check.ensures c.in-Some.ensures c.if-work-view.true

pub rows-requires : goal.rows-requires
rows-requires c = (view_checked c.args.view.now c.in_ok-check.ensures).fits

pub search-requires : goal.search-requires
unfolding indexed
search-requires c =
    let a = c.args in
    let store = a.view.now.store in
    rw c.rows.ensures (
      (view_checked a.view.now c.in_ok-check.ensures).ascends,
      omega (arith, c.if-work-view.false, length_rows_of store.rows a.view.now.index.now),
      later_parses a.view.now a.later.now a.earlier (length a.work.now / 8) c.in_ok-check.ensures c.in-Some.ensures,
    )

pub returns-in_err-searched-clause-value : goal.returns-in_err-searched-clause-value
returns-in_err-searched-clause-value c =
    let a = c.args in
    handed_on c.from_residual-in_err-searched.result c.from_residual-in_err-searched.ensures
    ∙ refused_search a.view.now a.later.now a.earlier (length a.work.now / 8) c.in_ok-check.ensures c.in-Some.ensures c.if-work-view.false
    (rw c.rows.ensures at c.search.ensures.value) (sym c.in_err-searched.was)

pub returns-clause-value : goal.returns-clause-value
returns-clause-value c =
    let a = c.args in
    linked_answer_lem a.view.now a.later.now a.earlier (length a.work.now / 8) c.in_ok-check.ensures c.in-Some.ensures c.if-work-view.false
    (rw c.rows.ensures at c.search.ensures.value) (sym c.in_ok-searched.was) c.is_linked.ensures c.count_loads.ensures
