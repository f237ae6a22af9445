-- `query::finish` meets its contract: more rows than lent are refused. Assumes nothing.
use mathlib.Core.Path.{sym, refl}
use borrow.Author.Tests.{lt-ltb, le-ltb}
use Rattle.laws.specs.Pick.{pick}
use Rattle.refusal.specs.Refusals.{refusal_of}
use Rattle.refusal.proofs.Numbers.{handed_on}
use Rattle.query.specs.Collecting.{finished}
use Rattle.query.proofs.finish.Goals as goal

pub returns-in_err-found : goal.returns-in_err-found
unfolding finished
returns-in_err-found c = sym (rw c.in_err-found.was (sym (handed_on c.from_residual.result c.from_residual.ensures)))

pub returns-then-lent-found : goal.returns-then-lent-found
unfolding finished refusal_of pick
returns-then-lent-found c = sym (rw (c.in_ok-found.was, lt-ltb c.args.lent c.in_ok-found.found.rows c.if-lent-found.true) refl)

pub returns : goal.returns
unfolding finished pick
returns c = sym (rw (c.in_ok-found.was, le-ltb c.args.lent c.in_ok-found.found.rows c.if-lent-found.false, c.count_loads.ensures) refl)
