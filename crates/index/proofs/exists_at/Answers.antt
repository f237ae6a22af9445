-- `index::exists_at` meets its contract: the place of the lowest key tells whether such a row is there. Assumes nothing.
use mathlib.Core.Path.{sym, ◌∙◌}
use borrow.Author.Tests.{tests}
use Rattle.std.proofs.Common.{rules}
use Rattle.laws.specs.Pick.{pick}
use Rattle.index.proofs.Existence.{exists_found, exists_not_found}
use Rattle.index.proofs.exists_at.Goals as goal

pub returns-in-Ok : goal.returns-in-Ok
returns-in-Ok c =
    let a = c.args in
    exists_found a.authority a.round a.rows.now c.requires c.told-rows (sym c.in-Ok.is ∙ c.find.ensures)

pub returns-in-Err : goal.returns-in-Err
unfolding pick
returns-in-Err c =
    let a = c.args in
    exists_not_found a.authority a.round a.rows.now c.requires c.told-rows (sym c.in-Err.is ∙ c.find.ensures) (search (rules, tests))
