-- `bincode::next` meets its contract. Assumes nothing.
use Rattle.laws.specs.Parse.{answer}
use Rattle.bincode.proofs.Cursors.{next_none, next_some}
use Rattle.bincode.proofs.Found.{told_none, next_told}
use Rattle.bincode.proofs.next.Goals as goal

pub returns-then-c-eq0 : goal.returns-then-c-eq0
unfolding answer
returns-then-c-eq0 g c = rw (next_none g.T.Decode.parser c.args.s.now c.args.c c.if-c-eq0.true)

pub returns-in_err-x : goal.returns-in_err-x
unfolding answer
returns-in_err-x g c =
    rw (
      c.from_residual.ensures,
      next_some g.T.Decode.parser c.args.s.now c.args.c c.if-c-eq0.false,
      told_none _ (g.T.Decode.parser c.args.s.now c.args.c.at) c.in_err-x.ensures,
    )

pub returns : goal.returns
returns g c =
    next_told _ c.args.c _ (next_some g.T.Decode.parser c.args.s.now c.args.c c.if-c-eq0.false) c.in_ok-x.ensures
