-- `reach::reach_round` meets its contract: the loop reads the round's blocks and marks those that a parent includes. Assumes nothing.
use mathlib.Core.Path.{sym, ap, ◌∙◌}
use mathlib.Core.List.{List, []}
use Prim.Native.Nat.{◌+◌}
use native.Mathlib.Omega.{arith}
use lib.Dec.{eqb}
use lib.ListN.{length, get_or}
use Rattle.refusal.proofs.Numbers.{handed_on}
use Rattle.query.proofs.Collecting.{at_most_one}
use Rattle.types.specs.declared.BlockReference.{BlockReference}
use Rattle.reach.specs.Reaching.{parents_of, is_reached}
use Rattle.reach.proofs.Reaching.{reaching_start, reaching_parents, reaching_ready, reaching_few, reached_all, reached_refused, reaching_next}
use Rattle.reach.proofs.reach_round.Goals as goal
use Rattle.reach.proofs.reach_round.Goals.{Start}

-- the parents' includes
abbrev parents : Start → List (List BlockReference)
parents c = let a = c.args in parents_of a.log.now.image.now a.later.now a.parents (a.from + length a.rows.now) a.work.now

pub loop-i-init : goal.loop-i-init
loop-i-init c =
    let a = c.args in
    reaching_start a.log.now a.earlier (parents (goal.at.loop-i-init c).Start) a.rows.now a.from a.work.now

pub returns-in_err-block : goal.returns-in_err-block
returns-in_err-block c =
    let a = c.args in
    let h =
    reached_refused a.log.now a.earlier (parents (goal.at.returns-in_err-block c).Start) a.rows.now a.from c.loop-i.invariant c.loop-i-test.true
    (sym c.in_err-block.was ∙ c.read_block.ensures) in
    record {
      value = handed_on c.from_residual.result c.from_residual.ensures ∙ h.0;
      marked = h.1;
      work_len_unchanged = c.loop-i.invariant.as_long;
    }

pub is_reached-reached-requires : goal.is_reached-reached-requires
is_reached-reached-requires c =
    let a = c.args in
    reaching_ready a.log.now a.earlier (parents (goal.at.is_reached-reached-requires c).Start) a.rows.now a.from c.loop-i.invariant c.requires.1

pub overflow_add-unloaded : goal.overflow_add-unloaded
overflow_add-unloaded c =
    let a = c.args in
    omega (arith, reaching_few a.log.now a.earlier (parents (goal.at.overflow_add-unloaded c).Start) a.rows.now a.from c.loop-i.invariant, c.loop-i-test.true, c.requires.0, at_most_one (eqb (get_or (get_or a.rows.now c.loop-i.i []) 7 0) 0), c.not_loaded-unloaded.ensures)

pub loop-i-preserved : goal.loop-i-preserved
loop-i-preserved c =
    let a = c.args in
    let b = c.in_ok-block.block in
    let p = parents (goal.at.loop-i-preserved c).Start in
    reaching_next a.log.now a.earlier p a.rows.now a.from c.loop-i.invariant c.loop-i-test.true c.is_reached-reached.ensures.bytes (sym c.in_ok-block.was ∙ c.read_block.ensures)
    (c.is_reached-reached.ensures.value
    ∙ ap (λ parents. is_reached parents b.reference) (reaching_parents a.log.now a.earlier p a.rows.now a.from c.loop-i.invariant a.later.now a.parents))
    (rw (← c.from.ensures) c.put_row.ensures) (omega (arith, c.requires.0, c.loop-i.invariant.as_long)) c.not_loaded-unloaded.ensures c.met-found.ensures

pub returns : goal.returns
returns c =
    let a = c.args in
    let h = reached_all a.log.now a.earlier (parents (goal.at.returns c).Start) a.rows.now a.from c.loop-i.invariant c.loop-i-test.false in
    record {
      value = h.0;
      marked = h.1;
      work_len_unchanged = c.loop-i.invariant.as_long;
    }
