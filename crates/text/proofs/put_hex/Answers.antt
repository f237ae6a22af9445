-- `text::put_hex` meets its contract. Assumes nothing.
use Rattle.std.proofs.Common.{ℕ, ◌≡◌, ◌+◌, ◌-◌, ◌∷◌, sym, ap, ap₂, ◌∙◌, add-zero, arith}
use native.Mathlib.Nat.{sub-zero}
use Rattle.text.specs.Digits.{hex_digits}
use Rattle.text.proofs.Digits.{hex_digits_none, hex_digits_next, length_hex_digits}
use Rattle.text.proofs.Put as put
use Rattle.text.proofs.put_hex.Goals as goal

pub loop-done-init : goal.loop-done-init
loop-done-init c = rw (add-zero, sub-zero)

pub loop-done-preserved : goal.loop-done-preserved
loop-done-preserved c =
    let a = c.args in
    let l = c.loop-done in
    let left : ℕ = a.digits - 1 - l.done in
    let less : left ≡ a.digits - (l.done + 1) = omega arith in
    let first = hex_digits_next (a.digits - l.done) left a.n (omega arith) in
    put.next l.out a.at l.done _ (first ∙ ap₂ ◌∷◌ (sym c.hex_digit.ensures) (ap (λ (k : ℕ). hex_digits k a.n) less)) c.store.ensures l.invariant

pub returns : goal.returns
returns c =
    let l = c.loop-done in
    record { next = rw length_hex_digits; bytes = put.done l.out _ (hex_digits_none _ _ (omega arith)) l.invariant }
