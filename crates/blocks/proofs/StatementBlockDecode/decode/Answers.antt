-- `decode` of a block meets its contract. Assumes nothing.
use Rattle.laws.specs.Parse.{answer, then, number}
use Rattle.bincode.specs.Bincode.{bool, vec}
use Rattle.bincode.proofs.Found.{told, nothing, told_as, told_none}
use Rattle.crypto.specs.Records.{signature}
use Rattle.types.specs.Records.{reference, statement as parser, block}
use Rattle.blocks.proofs.Places.{block_got}
use Rattle.blocks.proofs.StatementBlockDecode.decode.Goals as goal

pub returns-in_err-reference : goal.returns-in_err-reference
unfolding answer then block
returns-in_err-reference c =
    rw (
      c.from_residual.ensures,
      nothing (reference c.args.s.now c.args.at) c.in_err-reference.ensures,
    )

pub returns-in_err-includes : goal.returns-in_err-includes
unfolding answer then block
returns-in_err-includes c =
    rw (
      c.from_residual-in_err-includes.ensures,
      told (reference c.args.s.now c.args.at) c.in_ok-reference.ensures,
      told_none _ (vec reference c.args.s.now c.in_ok-reference.p) c.in_err-includes.ensures,
    )

pub returns-in_err-statements : goal.returns-in_err-statements
unfolding answer then block
returns-in_err-statements c =
    rw (
      c.from_residual-in_err-statements.ensures,
      told (reference c.args.s.now c.args.at) c.in_ok-reference.ensures,
      (told_as _ (vec reference c.args.s.now c.in_ok-reference.p) c.in_ok-includes.ensures).1,
      told_none _ (vec parser c.args.s.now c.in_ok-includes.q) c.in_err-statements.ensures,
    )

pub returns-in_err-low : goal.returns-in_err-low
unfolding answer then block
returns-in_err-low c =
    rw (
      c.from_residual-in_err-low.ensures,
      told (reference c.args.s.now c.args.at) c.in_ok-reference.ensures,
      (told_as _ (vec reference c.args.s.now c.in_ok-reference.p) c.in_ok-includes.ensures).1,
      (told_as _ (vec parser c.args.s.now c.in_ok-includes.q) c.in_ok-statements.ensures).1,
      nothing (number 8 c.args.s.now c.in_ok-statements.t) c.in_err-low.ensures,
    )

pub returns-in_err-high : goal.returns-in_err-high
unfolding answer then block
returns-in_err-high c =
    rw (
      c.from_residual-in_err-high.ensures,
      told (reference c.args.s.now c.args.at) c.in_ok-reference.ensures,
      (told_as _ (vec reference c.args.s.now c.in_ok-reference.p) c.in_ok-includes.ensures).1,
      (told_as _ (vec parser c.args.s.now c.in_ok-includes.q) c.in_ok-statements.ensures).1,
      told (number 8 c.args.s.now c.in_ok-statements.t) c.in_ok-low.ensures,
      nothing (number 8 c.args.s.now c.in_ok-low.u) c.in_err-high.ensures,
    )

pub returns-in_err-epoch_marker : goal.returns-in_err-epoch_marker
unfolding answer then block
returns-in_err-epoch_marker c =
    rw (
      c.from_residual-in_err-epoch_marker.ensures,
      told (reference c.args.s.now c.args.at) c.in_ok-reference.ensures,
      (told_as _ (vec reference c.args.s.now c.in_ok-reference.p) c.in_ok-includes.ensures).1,
      (told_as _ (vec parser c.args.s.now c.in_ok-includes.q) c.in_ok-statements.ensures).1,
      told (number 8 c.args.s.now c.in_ok-statements.t) c.in_ok-low.ensures,
      told (number 8 c.args.s.now c.in_ok-low.u) c.in_ok-high.ensures,
      nothing (bool c.args.s.now c.in_ok-high.v) c.in_err-epoch_marker.ensures,
    )

pub returns-in_err-signature : goal.returns-in_err-signature
unfolding answer then block
returns-in_err-signature c =
    rw (
      c.from_residual-in_err-signature.ensures,
      told (reference c.args.s.now c.args.at) c.in_ok-reference.ensures,
      (told_as _ (vec reference c.args.s.now c.in_ok-reference.p) c.in_ok-includes.ensures).1,
      (told_as _ (vec parser c.args.s.now c.in_ok-includes.q) c.in_ok-statements.ensures).1,
      told (number 8 c.args.s.now c.in_ok-statements.t) c.in_ok-low.ensures,
      told (number 8 c.args.s.now c.in_ok-low.u) c.in_ok-high.ensures,
      told (bool c.args.s.now c.in_ok-high.v) c.in_ok-epoch_marker.ensures,
      nothing (signature c.args.s.now c.in_ok-epoch_marker.w) c.in_err-signature.ensures,
    )

pub returns : goal.returns
returns c =
    let s = c.args.s.now in
    let is = told_as _ (vec reference s c.in_ok-reference.p) c.in_ok-includes.ensures in
    let ss = told_as _ (vec parser s c.in_ok-includes.q) c.in_ok-statements.ensures in
    block_got s c.args.at (told (reference s c.args.at) c.in_ok-reference.ensures) is.1 is.2 ss.1 ss.2
    (told (number 8 s c.in_ok-statements.t) c.in_ok-low.ensures) (told (number 8 s c.in_ok-low.u) c.in_ok-high.ensures)
    (told (bool s c.in_ok-high.v) c.in_ok-epoch_marker.ensures) (told (signature s c.in_ok-epoch_marker.w) c.in_ok-signature.ensures)
