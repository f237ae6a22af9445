-- `bincode::past` meets its contract. Assumes nothing.
use mathlib.Core.Path.{◌≡◌}
use Prim.Native.Nat.{◌+◌, ◌-◌}
use native.Mathlib.Numerals.{unary_clauses}
use native.Mathlib.Omega.{arith}
use Rattle.laws.specs.Parse.{answer}
use Rattle.laws.proofs.Parses.{start, next, stop, done}
use Rattle.bincode.proofs.Found.{told_none, told_as}
use Rattle.bincode.proofs.past.Goals as goal

pub loop-init : goal.loop-init
loop-init g c = simp unary_clauses (start g.T.Decode.parser c.args.s.now c.args.n c.args.at)

pub returns-in_err-end : goal.returns-in_err-end
unfolding answer
returns-in_err-end g c =
    rw (c.from_residual.ensures, stop c.loop.invariant (omega arith) (told_none _ (g.T.Decode.parser c.args.s.now c.loop.p) c.in_err-end.ensures))

pub loop-preserved : goal.loop-preserved
loop-preserved g c =
    let t = told_as _ (g.T.Decode.parser c.args.s.now c.loop.p) c.in_ok-end.ensures in
    let one_less : c.args.n - c.loop.counter - 1 ≡ c.args.n - (c.loop.counter + 1) = omega arith in
    rw one_less at (next c.loop.invariant (omega arith) t.1)

pub returns : goal.returns
unfolding answer
returns g c = rw (done c.loop.invariant (omega arith)).1
