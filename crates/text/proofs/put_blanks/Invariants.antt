-- `text::put_blanks` meets its contract. After i blanks the others are still to be put behind them. Assumes nothing.
use Rattle.std.proofs.Common.{◌≡◌, ◌+◌, ◌-◌}
use Rattle.text.specs.Clipped.{clipped}
use Rattle.text.specs.Columns.{blanks}
use Rattle.text.proofs.put_blanks.Given as goal

abbrev pub invariant-loop-i : goal.invariant-loop-i
invariant-loop-i l = clipped l.out (l.at + l.i) (blanks (l.n - l.i)) ≡ clipped l.initial.out l.at (blanks l.n)
