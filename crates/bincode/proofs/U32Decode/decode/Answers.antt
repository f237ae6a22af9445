-- `u32`'s `decode` meets its contract. Assumes nothing.
use native.Mathlib.Omega.{arith}
use Rattle.bincode.proofs.Found.{within, number_read, number_short}
use Rattle.bincode.proofs.U32Decode.decode.Goals as goal

pub read_u32-requires : goal.read_u32-requires
read_u32-requires c = within 4 c.args.s.now c.args.at c.fits.ensures c.if-fits.true

pub overflow_add-result : goal.overflow_add-result
overflow_add-result c = omega (arith, within 4 c.args.s.now c.args.at c.fits.ensures c.if-fits.true)

pub returns-then-fits : goal.returns-then-fits
returns-then-fits c = number_read 4 c.args.s.now c.args.at c.fits.ensures c.if-fits.true c.read_u32.ensures

pub returns : goal.returns
returns c = number_short 4 c.args.s.now c.args.at c.fits.ensures c.if-fits.false
