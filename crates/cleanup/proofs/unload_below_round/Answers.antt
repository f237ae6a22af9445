-- `cleanup::unload_below_round` meets its contract: rounds ascend, so behind the first that is past t nothing is left to unload. Assumes nothing.
use native.Mathlib.Omega.{arith}
use Rattle.cleanup.proofs.Unloading.{clearing_start, clearing_passed, clearing_next, clearing_stopped, clearing_done, all_counted, all_written}
use Rattle.cleanup.proofs.unload_below_round.Goals as goal
use Rattle.cleanup.proofs.unload_below_round.Goals.{then-index-i-ne0, else-index-i-ne0}

pub loop-i-init : goal.loop-i-init
loop-i-init c =
    clearing_start c.args.t c.args.index.now c.args.count c.requires.1

pub returns-then-t-index : goal.returns-then-t-index
returns-then-t-index c =
    let a = c.args in
    let inv = c.loop-i.invariant in
    let fits = c.requires.0 in
    let all = clearing_stopped a.t inv fits (omega arith) (omega arith) in
    record {
      value = all_counted a.t inv fits all;
      index_after = all_written a.t inv fits all;
    }

pub loop-i-preserved : goal.loop-i-preserved
loop-i-preserved c =
    let inv = c.loop-i.invariant in
    elim c.if-index-i-ne0.branch [
      | then-index-i-ne0 w ↦ rw (w.index-is, w.unloaded-is) (clearing_next c.args.t inv c.requires.0 (omega arith) (omega arith) w.if-index-i-ne0.true)
      | else-index-i-ne0 w ↦ rw (w.index-is, w.unloaded-is) (clearing_passed c.args.t inv c.requires.0 (omega arith) w.if-index-i-ne0.false)
    ]

pub returns : goal.returns
returns c =
    let a = c.args in
    let inv = c.loop-i.invariant in
    let fits = c.requires.0 in
    let all = clearing_done a.t inv fits c.loop-i-test.false in
    record {
      value = all_counted a.t inv fits all;
      index_after = all_written a.t inv fits all;
    }
