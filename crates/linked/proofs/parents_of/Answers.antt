-- `linked::parents_of` meets its contract. Assumes nothing.
use mathlib.Core.Path.{sym}
use Prim.Native.Nat.{suc}
use native.Mathlib.Omega.{arith}
use borrow.Author.Tests.{eq-eqb, ne_eqb}
use Rattle.laws.specs.Pick.{pick}
use Rattle.linked.proofs.parents_of.Goals as goal

pub returns-then-above-round-ne1 : goal.returns-then-above-round-ne1
unfolding pick
returns-then-above-round-ne1 c =
    let a = c.args in
    sym (rw (ne_eqb a.above (suc a.round) (λ e. omega (arith, c.if-above-round-ne1.true))))

pub returns : goal.returns
unfolding pick
returns c =
    let a = c.args in
    sym (rw (eq-eqb a.above (suc a.round) (omega (arith, c.if-above-round-ne1.false))))
