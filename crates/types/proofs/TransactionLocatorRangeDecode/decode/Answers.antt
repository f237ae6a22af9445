-- `decode` of a range meets its contract. Assumes nothing.
use Rattle.laws.specs.Parse.{answer, then, number}
use Rattle.bincode.proofs.Found.{told, nothing}
use Rattle.types.specs.Records.{reference, range}
use Rattle.types.proofs.TransactionLocatorRangeDecode.decode.Goals as goal

pub returns-in_err-block : goal.returns-in_err-block
unfolding answer then range
returns-in_err-block c = rw (c.from_residual.ensures, nothing (reference c.args.s.now c.args.at) c.in_err-block.ensures)

pub returns-in_err-offset_start_inclusive : goal.returns-in_err-offset_start_inclusive
unfolding answer then range
returns-in_err-offset_start_inclusive c = rw (c.from_residual-in_err-offset_start_inclusive.ensures, told (reference c.args.s.now c.args.at) c.in_ok-block.ensures, nothing (number 8 c.args.s.now c.in_ok-block.p) c.in_err-offset_start_inclusive.ensures)

pub returns-in_err-offset_end_exclusive : goal.returns-in_err-offset_end_exclusive
unfolding answer then range
returns-in_err-offset_end_exclusive c = rw (c.from_residual-in_err-offset_end_exclusive.ensures, told (reference c.args.s.now c.args.at) c.in_ok-block.ensures, told (number 8 c.args.s.now c.in_ok-block.p) c.in_ok-offset_start_inclusive.ensures, nothing (number 8 c.args.s.now c.in_ok-offset_start_inclusive.q) c.in_err-offset_end_exclusive.ensures)

pub returns : goal.returns
unfolding answer then range
returns c = rw (told (reference c.args.s.now c.args.at) c.in_ok-block.ensures, told (number 8 c.args.s.now c.in_ok-block.p) c.in_ok-offset_start_inclusive.ensures, told (number 8 c.args.s.now c.in_ok-offset_start_inclusive.q) c.in_ok-offset_end_exclusive.ensures)
