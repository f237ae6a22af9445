-- `rows::position_of_first_from` meets its contract. Assumes nothing.
use mathlib.Core.Path.{ap, ◌∙◌}
use borrow.Author.Tests.{tests}
use lib.Dec.{leb}
use lib.ListN.{length, get_or}
use Rattle.std.proofs.Common.{rules}
use Rattle.std.specs.Option.{unwrap_or}
use Rattle.std.proofs.lemmas.Iterator.{YieldsList-from_slice}
use Rattle.std.proofs.lemmas.Iterator.Search.{position_from_yields_List}
use Rattle.rows.proofs.Arrays.{leading_position}
use Rattle.rows.proofs.position_of_first_from.Goals as goal

pub returns : goal.returns
returns c =
    let e = position_from_yields_List (λ row. leb c.args.p (get_or row 0 0)) _ _ c.position.result c.position.ensures.ran (YieldsList-from_slice _ c.iter.ensures.rest) (λ x b q k. search (rules, tests)) in
    c.unwrap_or.ensures
    ∙ ap (λ o. unwrap_or o (length c.args.rows.now)) e
    ∙ leading_position c.args.p c.args.rows.now
