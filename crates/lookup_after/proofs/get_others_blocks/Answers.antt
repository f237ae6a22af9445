-- `lookup_after::get_others_blocks` meets its contract: the rows of the first rounds above one are a segment of the index. Assumes nothing.
use mathlib.Core.Path.{◌≡◌, sym, ap, ◌∙◌}
use mathlib.Core.List.{List}
use Prim.Native.Nat.{ℕ, ◌≤◌}
use native.Mathlib.Omega.{arith}
use lib.ListN.{length, take, drop}
use lib.Seq.{length-take-le}
use Rattle.std.specs.Prelude.{Some}
use Rattle.rows.specs.Rows.{Ascending}
use Rattle.store.specs.Views.{of_view}
use Rattle.filters.specs.Filters.{others_after}
use Rattle.filters.specs.Segments.{chosen, rounds_long}
use Rattle.filters.proofs.Slices.{part_behind, after_part_within, rounds_part_within, others_chosen}
use Rattle.query.specs.Query.{call_of}
use Rattle.query.proofs.Answering.{query_refused, query_answers}
use Rattle.lookup_after.specs.After.{get_others_blocks}
use Rattle.lookup_after.proofs.After.{after_checked}
use Rattle.lookup_after.proofs.get_others_blocks.Goals as goal
use Rattle.lookup_after.proofs.get_others_blocks.Goals.{After-rows-rows, After-first_above-from, After-rounds_end-to}

ascends : (c : After-rows-rows) → Ascending c.rows-rows.result.now
ascends c = rw c.rows-rows.ensures (after_checked c.args.view.now c.args.from_excluded (sym c.in_default.is ∙ c.check_after.ensures)).ascends

within : (c : After-first_above-from) → c.first_above-from.result ≤ length c.rows-rows.result.now
within c = after_part_within c.rows-rows.result.now (ascends (goal.at.After-first_above-from c).After-rows-rows) c.args.from_excluded c.first_above-from.ensures

-- the rows after the round, and how many of them are asked for

abbrev later : (c : After-first_above-from) → List (List ℕ)
later c = drop c.first_above-from.result c.rows-rows.result.now

ends : (c : After-rounds_end-to) → c.rounds_end-to.result ≡ rounds_long c.args.limit (later (goal.at.After-rounds_end-to c).After-first_above-from)
ends c = c.rounds_end-to.ensures ∙ ap (rounds_long c.args.limit) (part_behind c.rows-rows.result.now c.first_above-from.result)

pub returns-in-Err : goal.returns-in-Err
returns-in-Err c =
    let a = c.args in
    query_refused (get_others_blocks (of_view call_of a.view.now) a.from_excluded a.authority a.limit) (sym c.in-Err.is ∙ c.check_after.ensures)
    c.refuse.ensures.value c.refuse.ensures.out_after

pub rows-rows-requires : goal.rows-rows-requires
rows-rows-requires c = (after_checked c.args.view.now c.args.from_excluded (sym c.in_default.is ∙ c.check_after.ensures)).fits

pub first_above-from-requires : goal.first_above-from-requires
first_above-from-requires c = ascends (goal.at.first_above-from-requires c).After-rows-rows

pub offset_bounds-rows-from : goal.offset_bounds-rows-from
offset_bounds-rows-from c = omega (arith, within c, c.rows-rows.type_inv)

pub slice_bounds-later-count : goal.slice_bounds-later-count
slice_bounds-later-count c = within c

pub slice_bounds-later-start : goal.slice_bounds-later-start
slice_bounds-later-start c = within c

pub slice_bounds-answer-end : goal.slice_bounds-answer-end
slice_bounds-answer-end c =
    let a = c.args in
    let rows = c.rows-rows.result.now in
    let above = (goal.at.slice_bounds-answer-end c).After-rows-rows in
    rw (part_behind rows c.first_above-from.result)
    (sym (length-take-le c.rounds_end-to.result _ (rounds_part_within rows (ascends above) a.from_excluded c.first_above-from.ensures a.limit (ends (goal.at.slice_bounds-answer-end c).After-rounds_end-to))))

pub returns : goal.returns
returns c =
    let a = c.args in
    let rows = c.rows-rows.result.now in
    let from = c.first_above-from.result in
    let to = c.rounds_end-to.result in
    query_answers (of_view call_of a.view.now) _ (sym c.in_default.is ∙ c.check_after.ensures)
    (ap (λ (l : List (List ℕ)). chosen (Some a.authority) (length rows) (take to l)) (part_behind rows from)
    ∙ others_chosen rows (ascends (goal.at.returns c).After-rows-rows) a.from_excluded c.first_above-from.ensures a.limit
    (ends (goal.at.returns c).After-rounds_end-to) a.authority (length rows) (omega arith)
    ∙ ap (others_after a.authority a.from_excluded a.limit) c.rows-rows.ensures)
    c.answer.ensures
