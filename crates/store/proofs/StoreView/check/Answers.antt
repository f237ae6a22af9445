-- `store::StoreView::check` meets its contract: a check after the other. Assumes nothing.
use mathlib.Core.Path.{sym, ap, ◌∙◌}
use mathlib.Core.Bool.{Bool}
use mathlib.Core.List.{List}
use Prim.Native.Nat.{ℕ}
use Rattle.refusal.specs.Refusals.{checked}
use Rattle.refusal.proofs.Numbers.{passed, handed_on}
use Rattle.committee.specs.Committee.{committee_check}
use Rattle.store.specs.Store.{indexed}
use Rattle.store.proofs.Authorities.{passes}
use Rattle.store.proofs.Checked.{rows_refused, order_refused, order_passed, view_refused_log, view_refused_committee, view_refused_rows, view_passes}
use Rattle.store.proofs.StoreView.check.Goals as goal
use Rattle.store.proofs.StoreView.check.Goals.{then-self-via-then-self, then-self-via-else-self+then-not-check_rows}

pub returns-in_err-check : goal.returns-in_err-check
returns-in_err-check c =
    handed_on c.from_residual.result c.from_residual.ensures ∙ view_refused_log c.args.self.now c.in_err-check.ensures

pub returns-in_err-check_committee : goal.returns-in_err-check_committee
returns-in_err-check_committee c =
    handed_on c.from_residual-in_err-check_committee.result c.from_residual-in_err-check_committee.ensures
    ∙ view_refused_committee c.args.self.now c.in_ok-check.ensures c.in_err-check_committee.ensures

pub returns-then-self : goal.returns-then-self
unfolding indexed
returns-then-self c =
    let v = c.args.self.now in
    let committee = passed (committee_check v.store.committee_size v.store.authority) c.in_ok-check_committee.ensures in
    view_refused_rows v c.in_ok-check.ensures
    (elim c.then-self.branch [
      | then-self-via-then-self w ↦ rows_refused v.store v.index.now committee w.if-self.true
      | then-self-via-else-self+then-not-check_rows w ↦
          order_refused v.store v.index.now committee w.if-self.false
          (ap (passes v.store.committee_size) (sym w.rows.ensures) ∙ sym w.check_rows.ensures ∙ w.if-not-check_rows.true)
    ])

pub returns : goal.returns
unfolding indexed
returns c =
    let v = c.args.self.now in
    let committee = passed (committee_check v.store.committee_size v.store.authority) c.in_ok-check_committee.ensures in
    view_passes v c.in_ok-check.ensures
    (order_passed v.store v.index.now committee c.if-self.false
    (ap (passes v.store.committee_size) (sym c.rows.ensures) ∙ sym c.check_rows.ensures ∙ c.if-not-check_rows.false))
