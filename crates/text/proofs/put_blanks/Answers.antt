-- `text::put_blanks` meets its contract. Assumes nothing.
use Rattle.std.proofs.Common.{ℕ, ◌≡◌, ◌+◌, ◌-◌, ◌∷◌, sym, ap, ◌∙◌, add-zero, arith}
use native.Mathlib.Nat.{sub-zero}
use Rattle.laws.specs.Ascii.{blank}
use Rattle.text.specs.Columns.{blanks}
use Rattle.text.proofs.Columns.{length_blanks, blanks_none, blanks_next}
use Rattle.text.proofs.Put.{next, done}
use Rattle.text.proofs.put_blanks.Goals as goal

pub loop-i-init : goal.loop-i-init
loop-i-init c = rw (add-zero, sub-zero)

pub loop-i-preserved : goal.loop-i-preserved
loop-i-preserved c =
    let a = c.args in
    let l = c.loop-i in
    let less : a.n - l.i - 1 ≡ a.n - (l.i + 1) = omega arith in
    next l.out a.at l.i blank (blanks_next (a.n - l.i) (omega arith) ∙ ap (λ (m : ℕ). blank ∷ blanks m) less) c.store.ensures l.invariant

pub returns : goal.returns
returns c =
    let a = c.args in
    let l = c.loop-i in
    record {
      next = ap (λ (m : ℕ). a.at + m) (sym (length_blanks a.n));
      bytes = done l.out _ (blanks_none (a.n - l.i) (omega arith)) l.invariant;
    }
