-- `bool`'s `decode` meets its contract. Assumes nothing.
use borrow.Author.Tests.{leb-false}
use mathlib.Core.Path.{sym, ◌∙◌}
use native.Mathlib.Omega.{arith}
use Rattle.laws.specs.Parse.{answer}
use Rattle.bincode.proofs.Found.{within}
use Rattle.bincode.proofs.Rules.{bool_got, bool_bad, bool_short}
use Rattle.bincode.proofs.BoolDecode.decode.Goals as goal

pub bounds-s-at : goal.bounds-s-at
bounds-s-at c = omega (arith, within 1 c.args.s.now c.args.at c.fits.ensures c.if-fits.true)

pub overflow_add-result : goal.overflow_add-result
overflow_add-result c = omega (arith, within 1 c.args.s.now c.args.at c.fits.ensures c.if-fits.true)

pub returns-then-b-le1 : goal.returns-then-b-le1
unfolding answer
returns-then-b-le1 c =
    rw (bool_got c.args.s.now c.args.at (within 1 c.args.s.now c.args.at c.fits.ensures c.if-fits.true) c.if-b-le1.true)

pub returns-else-b-le1 : goal.returns-else-b-le1
unfolding answer
returns-else-b-le1 c =
    rw (bool_bad c.args.s.now c.args.at (within 1 c.args.s.now c.args.at c.fits.ensures c.if-fits.true) c.if-b-le1.false)

pub returns-else-fits : goal.returns-else-fits
unfolding answer
returns-else-fits c = rw (bool_short c.args.s.now c.args.at (leb-false _ _ (sym c.fits.ensures ∙ c.if-fits.false)))
