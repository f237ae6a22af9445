-- `decode` of an option meets its contract. Assumes nothing.
use Rattle.laws.specs.Pick.{pick}
use Rattle.laws.specs.Parse.{answer, then}
use Rattle.bincode.specs.Bincode.{bool, option}
use Rattle.bincode.proofs.Found.{told, nothing, told_none, option_told}
use Rattle.bincode.proofs.OptionDecode.decode.Goals as goal

pub returns-in_err-there : goal.returns-in_err-there
unfolding answer then option
returns-in_err-there g c = rw (c.from_residual.ensures, nothing (bool c.args.s.now c.args.at) c.in_err-there.ensures)

pub returns-then-not-there : goal.returns-then-not-there
unfolding answer then pick option
returns-then-not-there g c = rw (told (bool c.args.s.now c.args.at) c.in_ok-there.ensures, c.if-not-there.true)

pub returns-in_err-x : goal.returns-in_err-x
unfolding answer then pick option
returns-in_err-x g c =
    rw (
      c.from_residual-in_err-x.ensures,
      told (bool c.args.s.now c.args.at) c.in_ok-there.ensures,
      c.if-not-there.false,
      told_none _ (g.T.Decode.parser c.args.s.now c.in_ok-there.p) c.in_err-x.ensures,
    )

pub returns : goal.returns
returns g c =
    let a = c.args in
    option_told g.T.Decode.answered g.T.Decode.parser a.s.now a.at c.in_ok-there.ensures c.if-not-there.false c.in_ok-x.ensures
