-- `lookup::blocks_of_round` meets its contract: the rows of a round are a segment of the index. Assumes nothing.
use mathlib.Core.Path.{sym, ap, ◌∙◌}
use Prim.Native.Nat.{◌≤◌}
use native.Mathlib.Omega.{arith}
use lib.ListN.{length}
use Rattle.rows.specs.Rows.{Ascending}
use Rattle.tables.specs.Tables.{EightWords}
use Rattle.tables.proofs.Tables.{eights_rows_of}
use Rattle.store.specs.Store.{indexed}
use Rattle.store.specs.Views.{of_view}
use Rattle.store.proofs.Checked.{view_checked}
use Rattle.filters.proofs.Slices.{round_part_within, round_chosen}
use Rattle.query.specs.Query.{call_of}
use Rattle.query.proofs.Answering.{query_refused, query_answers}
use Rattle.lookup.specs.Lookups.{blocks_of_round, in_round}
use Rattle.lookup.proofs.Rounds.{same_rows, starts_before}
use Rattle.lookup.proofs.blocks_of_round.Goals as goal
use Rattle.lookup.proofs.blocks_of_round.Goals.{After-first_above-to, After-rows-rows}

-- the rows

ascends : (c : After-rows-rows) → Ascending c.rows-rows.result.now
ascends c = rw c.rows-rows.ensures (view_checked c.args.view.now (sym c.in_default.is ∙ c.check.ensures)).ascends

eights : (c : After-rows-rows) → EightWords c.rows-rows.result.now
unfolding indexed
eights c =
    let v = c.args.view.now in
    rw c.rows-rows.ensures (eights_rows_of v.store.rows v.index.now (view_checked v (sym c.in_default.is ∙ c.check.ensures)).fits)

-- the part of them that is asked for
within : (c : After-first_above-to) → (c.lower_bound-from.result ≤ c.first_above-to.result) × (c.first_above-to.result ≤ length c.rows-rows.result.now)
within c =
    let rows = c.rows-rows.result.now in
    let found = (goal.at.After-first_above-to c).After-rows-rows in (
      omega (arith, starts_before c.args.round rows, c.lower_bound-from.ensures, c.first_above-to.ensures),
      round_part_within rows (ascends found) (eights found) c.args.round c.lower_bound-from.ensures c.first_above-to.ensures,
    )

pub returns-in-Err : goal.returns-in-Err
returns-in-Err c =
    let a = c.args in
    query_refused (blocks_of_round (of_view call_of a.view.now) a.author a.round) (sym c.in-Err.is ∙ c.check.ensures)
    c.refuse.ensures.value c.refuse.ensures.out_after

pub rows-rows-requires : goal.rows-rows-requires
rows-rows-requires c = (view_checked c.args.view.now (sym c.in_default.is ∙ c.check.ensures)).fits

pub lower_bound-from-requires : goal.lower_bound-from-requires
lower_bound-from-requires c = ascends (goal.at.lower_bound-from-requires c).After-rows-rows

pub first_above-to-requires : goal.first_above-to-requires
first_above-to-requires c = ascends (goal.at.first_above-to-requires c).After-rows-rows

pub offset_bounds-rows-from : goal.offset_bounds-rows-from
offset_bounds-rows-from c =
    let part = within c in
    omega (arith, part.0, part.1, c.rows-rows.type_inv)

pub slice_bounds-answer-count : goal.slice_bounds-answer-count
slice_bounds-answer-count c = (within c).0

pub slice_bounds-answer-start : goal.slice_bounds-answer-start
slice_bounds-answer-start c = (within c).0

pub slice_bounds-answer-end : goal.slice_bounds-answer-end
slice_bounds-answer-end c = (within c).1

pub returns : goal.returns
returns c =
    let a = c.args in
    let rows = c.rows-rows.result.now in
    let found = (goal.at.returns c).After-rows-rows in
    query_answers (of_view call_of a.view.now) _ (sym c.in_default.is ∙ c.check.ensures)
    (round_chosen rows (ascends found) (eights found) a.round c.lower_bound-from.ensures c.first_above-to.ensures a.author (length rows) (omega arith)
    ∙ same_rows a.author a.round rows
    ∙ ap (in_round a.author a.round) c.rows-rows.ensures)
    c.answer.ensures
