-- `linked::search` meets its contract: the loop goes down the indexed rounds. The measure is how many rows are left. Assumes nothing.
use mathlib.Core.Path.{refl, ◌∙◌}
use Prim.Native.Nat.{◌<◌}
use native.Mathlib.Omega.{arith}
use Rattle.refusal.proofs.Numbers.{handed_on}
use Rattle.tables.proofs.Tables.{eights_told}
use Rattle.linked.proofs.Going.{going_start, going_done, going_below, going_ready, going_from, going_room, going_refused, going_few, going_next}
use Rattle.linked.proofs.search.Goals as goal
use Rattle.linked.proofs.search.Goals.{After-parents_of-near}

pub loop-to-init : goal.loop-to-init
loop-to-init c =
    going_start c.args.work.now c.requires.1 c.lower_bound-to.ensures

pub parents_of-near-requires : goal.parents_of-near-requires
parents_of-near-requires c =
    going_below (eights_told c.args.rows.now c.told-rows) c.requires.0 c.lower_bound-low.ensures c.loop-to.invariant c.loop-to-test.true refl

-- the round has rows
begins : (c : After-parents_of-near) → c.lower_bound-from.result < c.loop-to.to
begins c =
    going_from (eights_told c.args.rows.now c.told-rows) c.requires.0 c.lower_bound-low.ensures c.loop-to.invariant c.loop-to-test.true refl c.parents_of-near.ensures c.lower_bound-from.ensures

pub slice_bounds-reach_round-count : goal.slice_bounds-reach_round-count
slice_bounds-reach_round-count c = omega (arith, begins (goal.at.slice_bounds-reach_round-count c).After-parents_of-near)

pub slice_bounds-reach_round-start : goal.slice_bounds-reach_round-start
slice_bounds-reach_round-start c =
    omega (arith, c.loop-to.invariant.few, begins (goal.at.slice_bounds-reach_round-start c).After-parents_of-near)

pub offset_bounds-rows-from : goal.offset_bounds-rows-from
offset_bounds-rows-from c =
    omega (arith, c.loop-to.invariant.few, begins (goal.at.offset_bounds-rows-from c).After-parents_of-near)

pub reach_round-requires : goal.reach_round-requires
reach_round-requires c = (
  going_room (eights_told c.args.rows.now c.told-rows) c.requires.0 c.lower_bound-low.ensures c.loop-to.invariant c.loop-to-test.true refl c.parents_of-near.ensures c.lower_bound-from.ensures,
  going_ready (eights_told c.args.rows.now c.told-rows) c.requires.0 c.lower_bound-low.ensures c.loop-to.invariant c.loop-to-test.true refl c.parents_of-near.ensures c.lower_bound-from.ensures c.requires.2,
)

pub returns-in_err-s : goal.returns-in_err-s
returns-in_err-s c =
    record {
      value =
          handed_on c.from_residual.result c.from_residual.ensures
          ∙ going_refused (eights_told c.args.rows.now c.told-rows) c.requires.0 c.lower_bound-low.ensures c.loop-to.invariant c.loop-to-test.true refl c.parents_of-near.ensures c.lower_bound-from.ensures c.reach_round.ensures.value c.in_err-s.was;
      work_len_unchanged = c.reach_round.ensures.work_len_unchanged ∙ c.loop-to.invariant.as_long;
    }

pub overflow_add-unloaded : goal.overflow_add-unloaded
overflow_add-unloaded c =
    omega (arith, c.loop-to.invariant.room, going_few (eights_told c.args.rows.now c.told-rows) c.requires.0 c.lower_bound-low.ensures c.loop-to.invariant c.loop-to-test.true refl c.parents_of-near.ensures c.lower_bound-from.ensures c.reach_round.ensures.value c.in_ok-s.was)

pub overflow_sub-parents : goal.overflow_sub-parents
overflow_sub-parents c = omega (arith, begins (goal.at.overflow_sub-parents c).After-parents_of-near)

pub loop-to-smaller : goal.loop-to-smaller
loop-to-smaller c = begins (goal.at.loop-to-smaller c).After-parents_of-near

pub loop-to-preserved : goal.loop-to-preserved
loop-to-preserved c =
    going_next (eights_told c.args.rows.now c.told-rows) c.requires.0 c.lower_bound-low.ensures c.loop-to.invariant c.loop-to-test.true refl c.parents_of-near.ensures c.lower_bound-from.ensures c.reach_round.ensures.value c.in_ok-s.was c.reach_round.ensures.marked c.reach_round.ensures.work_len_unchanged

pub returns : goal.returns
returns c =
    record {
      value = going_done (eights_told c.args.rows.now c.told-rows) c.requires.0 c.lower_bound-low.ensures c.loop-to.invariant c.loop-to-test.false c.found_in.ensures;
      work_len_unchanged = c.loop-to.invariant.as_long;
    }
