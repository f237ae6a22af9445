-- `small_payloads::main` is safe and ends: the whole text lies in its buffer. Assumes nothing of its own.
use mathlib.Core.Path.{sym}
use native.Mathlib.Omega.{arith}
use lib.Seq.{length-take-le}
use Rattle.payloads.proofs.Lines.{text_length}
use Rattle.small_payloads.proofs.main.Goals as goal

-- the buffer is as long as the text
pub slice_bounds-text-end : goal.slice_bounds-text-end
slice_bounds-text-end c = omega (arith, c.list_small-end.ensures.next, text_length)

pub slice_bounds-write_all-end : goal.slice_bounds-write_all-end
slice_bounds-write_all-end c = sym (length-take-le _ _ (omega (arith, c.list_small-end.ensures.next, text_length)))
