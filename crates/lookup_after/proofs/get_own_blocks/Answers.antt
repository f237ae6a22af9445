-- `lookup_after::get_own_blocks` meets its contract: the rows above a round are a segment of the index. Assumes nothing.
use mathlib.Core.Path.{sym, ap, ◌∙◌}
use Prim.Native.Nat.{◌≤◌}
use native.Mathlib.Omega.{arith}
use lib.ListN.{length}
use Rattle.std.specs.Prelude.{Some}
use Rattle.rows.specs.Rows.{Ascending}
use Rattle.store.specs.Views.{of_view}
use Rattle.filters.specs.Filters.{own_after}
use Rattle.filters.specs.Segments.{chosen}
use Rattle.filters.proofs.Slices.{part_behind, after_part_within, own_chosen}
use Rattle.query.specs.Query.{call_of}
use Rattle.query.proofs.Answering.{query_refused, query_answers}
use Rattle.lookup_after.specs.After.{get_own_blocks}
use Rattle.lookup_after.proofs.After.{after_checked}
use Rattle.lookup_after.proofs.get_own_blocks.Goals as goal
use Rattle.lookup_after.proofs.get_own_blocks.Goals.{After-rows-rows, After-first_above-from}

ascends : (c : After-rows-rows) → Ascending c.rows-rows.result.now
ascends c = rw c.rows-rows.ensures (after_checked c.args.view.now c.args.from_excluded (sym c.in_default.is ∙ c.check_after.ensures)).ascends

within : (c : After-first_above-from) → c.first_above-from.result ≤ length c.rows-rows.result.now
within c = after_part_within c.rows-rows.result.now (ascends (goal.at.After-first_above-from c).After-rows-rows) c.args.from_excluded c.first_above-from.ensures

pub returns-in-Err : goal.returns-in-Err
returns-in-Err c =
    let a = c.args in
    query_refused (get_own_blocks (of_view call_of a.view.now) a.from_excluded a.limit) (sym c.in-Err.is ∙ c.check_after.ensures)
    c.refuse.ensures.value c.refuse.ensures.out_after

pub rows-rows-requires : goal.rows-rows-requires
rows-rows-requires c = (after_checked c.args.view.now c.args.from_excluded (sym c.in_default.is ∙ c.check_after.ensures)).fits

pub first_above-from-requires : goal.first_above-from-requires
first_above-from-requires c = ascends (goal.at.first_above-from-requires c).After-rows-rows

pub offset_bounds-rows-from : goal.offset_bounds-rows-from
offset_bounds-rows-from c = omega (arith, within c, c.rows-rows.type_inv)

pub slice_bounds-answer-count : goal.slice_bounds-answer-count
slice_bounds-answer-count c = within c

pub slice_bounds-answer-start : goal.slice_bounds-answer-start
slice_bounds-answer-start c = within c

pub returns : goal.returns
returns c =
    let a = c.args in
    let own = a.view.now.store.authority in
    let rows = c.rows-rows.result.now in
    let from = c.first_above-from.result in
    query_answers (of_view call_of a.view.now) _ (sym c.in_default.is ∙ c.check_after.ensures)
    (ap (chosen (Some own) a.limit) (part_behind rows from)
    ∙ own_chosen rows (ascends (goal.at.returns c).After-rows-rows) a.from_excluded c.first_above-from.ensures own a.limit
    ∙ ap (own_after own a.from_excluded a.limit) c.rows-rows.ensures)
    c.answer.ensures
