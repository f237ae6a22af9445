-- `decode` of a reference meets its contract. Assumes nothing.
use Rattle.laws.specs.Parse.{answer, then, number}
use Rattle.bincode.proofs.Found.{told, nothing}
use Rattle.crypto.specs.Records.{digest}
use Rattle.types.specs.Records.{reference}
use Rattle.types.proofs.BlockReferenceDecode.decode.Goals as goal

pub returns-in_err-authority : goal.returns-in_err-authority
unfolding answer then reference
returns-in_err-authority c = rw (c.from_residual.ensures, nothing (number 8 c.args.s.now c.args.at) c.in_err-authority.ensures)

pub returns-in_err-round : goal.returns-in_err-round
unfolding answer then reference
returns-in_err-round c = rw (c.from_residual-in_err-round.ensures, told (number 8 c.args.s.now c.args.at) c.in_ok-authority.ensures, nothing (number 8 c.args.s.now c.in_ok-authority.p) c.in_err-round.ensures)

pub returns-in_err-digest : goal.returns-in_err-digest
unfolding answer then reference
returns-in_err-digest c = rw (c.from_residual-in_err-digest.ensures, told (number 8 c.args.s.now c.args.at) c.in_ok-authority.ensures, told (number 8 c.args.s.now c.in_ok-authority.p) c.in_ok-round.ensures, nothing (digest c.args.s.now c.in_ok-round.q) c.in_err-digest.ensures)

pub returns : goal.returns
unfolding answer then reference
returns c = rw (told (number 8 c.args.s.now c.args.at) c.in_ok-authority.ensures, told (number 8 c.args.s.now c.in_ok-authority.p) c.in_ok-round.ensures, told (digest c.args.s.now c.in_ok-round.q) c.in_ok-digest.ensures)
