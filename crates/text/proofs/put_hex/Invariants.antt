-- `text::put_hex` meets its contract. After `done` digits the others are still to be put behind them. Assumes nothing.
use Rattle.std.proofs.Common.{◌≡◌, ◌+◌, ◌-◌}
use Rattle.text.specs.Clipped.{clipped}
use Rattle.text.specs.Digits.{hex_digits}
use Rattle.text.proofs.put_hex.Given as goal

abbrev pub invariant-loop-done : goal.invariant-loop-done
invariant-loop-done l = clipped l.out (l.at + l.done) (hex_digits (l.digits - l.done) l.n) ≡ clipped l.initial.out l.at (hex_digits l.digits l.n)
