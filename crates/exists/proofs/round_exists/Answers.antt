-- `exists::round_exists` meets its contract: the place of the round's lowest key tells whether a row of the round is there. Assumes nothing.
use mathlib.Core.Path.{sym, ◌∙◌}
use borrow.Author.Tests.{tests}
use Rattle.std.proofs.Common.{rules}
use Rattle.laws.specs.Pick.{pick}
use Rattle.exists.proofs.Existing.{there_found, there_not_found}
use Rattle.exists.proofs.round_exists.Goals as goal

pub returns-in-Ok : goal.returns-in-Ok
returns-in-Ok c =
    let a = c.args in
    there_found a.round a.rows.now c.requires c.told-rows (sym c.in-Ok.is ∙ c.find.ensures)

pub returns-in-Err : goal.returns-in-Err
unfolding pick
returns-in-Err c =
    let a = c.args in
    there_not_found a.round a.rows.now c.requires c.told-rows (sym c.in-Err.is ∙ c.find.ensures) (search (rules, tests))
