-- `node_store::resume` meets its contract: a refusal changes nothing. Assumes nothing.
use mathlib.Core.Path.{sym, ◌∙◌}
use Prim.Native.Nat.{ℕ}
use lib.ListN.{get_or}
use Rattle.wal_position.proofs.Checks.{unless_passed, unless_refused}
use Rattle.node_store.specs.Stores.{recovery_number, resumed_used}
use Rattle.node_store.proofs.resume.Goals as goal

pub returns-then-refusal-ne0 : goal.returns-then-refusal-ne0
unfolding resumed_used
returns-then-refusal-ne0 c =
    let a = c.args in
    let number = c.recovery_number-refusal.ensures in
    (number, sym (unless_refused (λ (m : ℕ). a.used.now) (get_or a.recovered.now 3 0) (recovery_number a.recovered.now) (λ z. c.if-refusal-ne0.true (number ∙ z))))

pub returns : goal.returns
unfolding resumed_used
returns c =
    let a = c.args in
    let passed = sym c.recovery_number-refusal.ensures ∙ c.if-refusal-ne0.false in
    (sym passed, sym (unless_passed (λ (m : ℕ). a.used.now) (get_or a.recovered.now 3 0) (recovery_number a.recovered.now) passed))
