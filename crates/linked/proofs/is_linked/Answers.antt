-- `linked::is_linked` meets its contract. Assumes nothing.
use mathlib.Core.Path.{sym, ◌∙◌}
use Rattle.laws.specs.Pick.{pick}
use Rattle.includes.proofs.Comparing.{compared}
use Rattle.linked.proofs.is_linked.Goals as goal

pub returns-then-eq : goal.returns-then-eq
unfolding pick
returns-then-eq c =
    let a = c.args in
    rw (sym (c.eq.ensures ∙ compared a.later a.earlier) ∙ c.if-eq.true) c.if-eq.true

pub returns-else-eq : goal.returns-else-eq
unfolding pick
returns-else-eq c =
    let a = c.args in
    sym (rw (sym (c.eq.ensures ∙ compared a.later a.earlier) ∙ c.if-eq.false))
