-- `text::put_right` meets its contract. Assumes nothing.
use mathlib.Core.Path.{ap, ◌∙◌}
use Prim.Native.Nat.{ℕ, ◌-◌}
use native.Mathlib.Omega.{arith}
use Rattle.text.proofs.Columns.{length_blanks, put_to_right}
use Rattle.text.proofs.put_right.Goals as goal

pub put_decimal-requires : goal.put_decimal-requires
put_decimal-requires c =
    omega (arith, c.put_blanks-start.ensures.next, length_blanks c.missing.result, c.missing.ensures)

pub returns : goal.returns
returns c =
    put_to_right c.args.width c.missing.result
    (c.missing.ensures ∙ ap (λ (m : ℕ). c.args.width - m) c.count_digits.ensures)
    c.put_blanks-start.ensures c.put_decimal.ensures
