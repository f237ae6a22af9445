-- `exists::all_exist` meets its contract. Assumes nothing.
use mathlib.Core.Path.{◌∙◌}
use borrow.Author.Rules.{rules}
use Rattle.std.proofs.Common.{tests}
use Rattle.std.proofs.lemmas.Iterator.{YieldsList-from_slice}
use Rattle.std.proofs.lemmas.Iterator.Search.{all_from_yields_List}
use Rattle.index.specs.Keys.{exists_at}
use Rattle.exists.proofs.Listed.{listed}
use Rattle.exists.proofs.all_exist.Goals as goal

pub returns : goal.returns
returns c =
    let a = c.args in
    all_from_yields_List (λ author. exists_at author a.round a.rows.now) _ _ _ c.all.ensures.ran (YieldsList-from_slice a.authorities.now cc) (λ x b q k. search (rules, tests))
    ∙ listed a.authorities.now a.round a.rows.now
