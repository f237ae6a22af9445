-- `text::put_bytes` meets its contract. After i bytes the rest of the text is still to be put behind them. Assumes nothing.
use Rattle.std.proofs.Common.{◌≡◌, ◌+◌, drop}
use Rattle.text.specs.Clipped.{clipped}
use Rattle.text.proofs.put_bytes.Given as goal

abbrev pub invariant-loop-i : goal.invariant-loop-i
invariant-loop-i l = clipped l.out (l.at + l.i) (drop l.i l.text) ≡ clipped l.initial.out l.at l.text
