-- `reach::met` meets its contract. Assumes nothing.
use mathlib.Core.Path.{◌∙◌}
use Rattle.laws.specs.Pick.{pick}
use Rattle.includes.proofs.Comparing.{compared}
use Rattle.reach.proofs.met.Goals as goal

pub returns-then-found : goal.returns-then-found
unfolding pick
returns-then-found c = rw c.if-found.true

pub returns-then-reached : goal.returns-then-reached
unfolding pick
returns-then-reached c =
    let a = c.args in
    rw (c.if-found.false, c.if-reached.true) (c.eq.ensures ∙ compared a.reference a.earlier)

pub returns-else-reached : goal.returns-else-reached
unfolding pick
returns-else-reached c = rw (c.if-found.false, c.if-reached.false)
