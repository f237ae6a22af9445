-- `decode` of a locator meets its contract. Assumes nothing.
use Rattle.laws.specs.Parse.{answer, then, number}
use Rattle.bincode.proofs.Found.{told, nothing}
use Rattle.types.specs.Records.{reference, locator}
use Rattle.types.proofs.TransactionLocatorDecode.decode.Goals as goal

pub returns-in_err-block : goal.returns-in_err-block
unfolding answer then locator
returns-in_err-block c = rw (c.from_residual.ensures, nothing (reference c.args.s.now c.args.at) c.in_err-block.ensures)

pub returns-in_err-offset : goal.returns-in_err-offset
unfolding answer then locator
returns-in_err-offset c = rw (c.from_residual-in_err-offset.ensures, told (reference c.args.s.now c.args.at) c.in_ok-block.ensures, nothing (number 8 c.args.s.now c.in_ok-block.p) c.in_err-offset.ensures)

pub returns : goal.returns
unfolding answer then locator
returns c = rw (told (reference c.args.s.now c.args.at) c.in_ok-block.ensures, told (number 8 c.args.s.now c.in_ok-block.p) c.in_ok-offset.ensures)
