-- `linked::found_in` meets its contract. Assumes nothing.
use mathlib.Core.Path.{sym}
use Rattle.laws.specs.Pick.{pick}
use Rattle.linked.proofs.found_in.Goals as goal

pub returns-then-found : goal.returns-then-found
unfolding pick
returns-then-found c = sym (rw c.if-found.true)

pub returns-else-found : goal.returns-else-found
unfolding pick
returns-else-found c = rw c.if-found.false
