-- `node_store::open_number` meets its contract: a check after the other. Assumes nothing.
use mathlib.Core.Path.{sym, ap, ◌∙◌}
use Rattle.refusal.specs.Refusals.{number_of}
use Rattle.refusal.proofs.Numbers.{checked_number}
use Rattle.wal_position.proofs.Checks.{unless_passed, unless_refused}
use Rattle.committee.specs.Committee.{committee_check}
use Rattle.committee.proofs.Checks.{committee_tabled}
use Rattle.node_store.specs.Stores.{recovery_number, opened_number}
use Rattle.node_store.proofs.open_number.Goals as goal

pub returns-then-refusal-ne0 : goal.returns-then-refusal-ne0
unfolding opened_number
returns-then-refusal-ne0 c =
    let a = c.args in
    let number = c.recovery_number-refusal.ensures in
    number ∙ sym (unless_refused (λ n. n) _ (recovery_number a.recovered.now) (λ z. c.if-refusal-ne0.true (number ∙ z)))

pub returns : goal.returns
unfolding opened_number
returns c =
    let a = c.args in
    c.number_of.ensures
    ∙ ap number_of c.check_committee.ensures
    ∙ checked_number (committee_check a.size a.own) (committee_tabled a.size a.own)
    ∙ sym (unless_passed (λ n. n) _ (recovery_number a.recovered.now) (sym c.recovery_number-refusal.ensures ∙ c.if-refusal-ne0.false))
