-- `lookup::get_block` meets its contract: the row with its key is its one row. Assumes nothing.
use mathlib.Core.Path.{◌≡◌, sym, ap, ◌∙◌}
use mathlib.Core.List.{List}
use Prim.Native.Nat.{ℕ, ◌+◌, ◌<◌}
use native.Mathlib.Omega.{arith}
use lib.ListN.{length}
use Rattle.rows.specs.Rows.{Ascending, place_of}
use Rattle.index.specs.Keys.{key_words}
use Rattle.store.specs.Views.{of_view}
use Rattle.store.proofs.Checked.{view_checked}
use Rattle.filters.specs.Filters.{by_reference}
use Rattle.filters.specs.Segments.{chosen}
use Rattle.filters.proofs.Keeping.{chosen_every}
use Rattle.filters.proofs.Slices.{length_part, part_one, reference_row, reference_absent}
use Rattle.query.specs.Query.{call_of}
use Rattle.query.proofs.Answering.{query_refused, query_answers}
use Rattle.lookup.specs.Lookups.{get_block}
use Rattle.lookup.proofs.get_block.Goals as goal
use Rattle.lookup.proofs.get_block.Goals.{After-find, After-rows-rows, In-Ok}

ascends : (c : After-rows-rows) → Ascending c.rows-rows.result.now
ascends c = rw c.rows-rows.ensures (view_checked c.args.view.now (sym c.in_default.is ∙ c.check.ensures)).ascends

-- where the row is
place : (c : After-find) → c.find.result ≡ place_of (key_words c.args.reference) c.rows-rows.result.now
place c = c.find.ensures ∙ ap (λ (k : List ℕ). place_of k c.rows-rows.result.now) c.key_of.ensures

within : (c : In-Ok) → c.in-Ok.i < length c.rows-rows.result.now
within c =
    (reference_row c.rows-rows.result.now (ascends (goal.at.In-Ok c).After-rows-rows) c.args.reference
    (sym c.in-Ok.is ∙ place (goal.at.In-Ok c).After-find)).0

pub returns-in-Err : goal.returns-in-Err
returns-in-Err c =
    let a = c.args in
    query_refused (get_block (of_view call_of a.view.now) a.reference) (sym c.in-Err.is ∙ c.check.ensures)
    c.refuse.ensures.value c.refuse.ensures.out_after

pub rows-rows-requires : goal.rows-rows-requires
rows-rows-requires c = (view_checked c.args.view.now (sym c.in_default.is ∙ c.check.ensures)).fits

pub find-requires : goal.find-requires
find-requires c = ascends (goal.at.find-requires c).After-rows-rows

pub overflow_add-i : goal.overflow_add-i
overflow_add-i c = omega (arith, within c, c.rows-rows.type_inv)

pub offset_bounds-rows-i : goal.offset_bounds-rows-i
offset_bounds-rows-i c = omega (arith, within c, c.rows-rows.type_inv)

pub slice_bounds-answer-end : goal.slice_bounds-answer-end
slice_bounds-answer-end c = omega (arith, within c)

pub returns-in-Ok : goal.returns-in-Ok
returns-in-Ok c =
    let a = c.args in
    let rows = c.rows-rows.result.now in
    let row = reference_row rows (ascends (goal.at.returns-in-Ok c).After-rows-rows) a.reference (sym c.in-Ok.is ∙ place (goal.at.returns-in-Ok c).After-find) in
    let i = c.in-Ok.i in
    query_answers (of_view call_of a.view.now) _ (sym c.in_default.is ∙ c.check.ensures)
    (chosen_every 1 _ (omega (arith, length_part rows i (i + 1) (omega (arith, row.0))))
    ∙ part_one rows i row.0
    ∙ row.1
    ∙ ap (by_reference a.reference) c.rows-rows.ensures)
    c.answer.ensures

pub returns-in-Err-find : goal.returns-in-Err-find
unfolding chosen
returns-in-Err-find c =
    let a = c.args in
    let absent = reference_absent c.rows-rows.result.now a.reference (sym c.in-Err-find.is ∙ place (goal.at.returns-in-Err-find c).After-find) in
    query_answers (of_view call_of a.view.now) _ (sym c.in_default.is ∙ c.check.ensures) (sym absent ∙ ap (by_reference a.reference) c.rows-rows.ensures)
    c.answer-in-Err-find.ensures
