-- `text::store` meets its contract: it stores within the buffer, and does nothing past its end. Assumes nothing.
use mathlib.Core.Path.{sym}
use Rattle.text.proofs.Clipped.{clipped_byte, clipped_outside}
use Rattle.text.proofs.store.Goals as goal

pub returns-then-at-out : goal.returns-then-at-out
returns-then-at-out c = clipped_byte c.args.out.now c.args.at c.args.b

pub returns-else-at-out : goal.returns-else-at-out
returns-else-at-out c = sym (clipped_outside c.args.out.now c.args.at _ c.if-at-out.false)
