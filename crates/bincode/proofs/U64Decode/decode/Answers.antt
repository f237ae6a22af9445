-- `u64`'s `decode` meets its contract. Assumes nothing.
use native.Mathlib.Omega.{arith}
use Rattle.bincode.proofs.Found.{within, number_read, number_short}
use Rattle.bincode.proofs.U64Decode.decode.Goals as goal

pub read_u64-requires : goal.read_u64-requires
read_u64-requires c = within 8 c.args.s.now c.args.at c.fits.ensures c.if-fits.true

pub overflow_add-result : goal.overflow_add-result
overflow_add-result c = omega (arith, within 8 c.args.s.now c.args.at c.fits.ensures c.if-fits.true)

pub returns-then-fits : goal.returns-then-fits
returns-then-fits c = number_read 8 c.args.s.now c.args.at c.fits.ensures c.if-fits.true c.read_u64.ensures

pub returns : goal.returns
returns c = number_short 8 c.args.s.now c.args.at c.fits.ensures c.if-fits.false
