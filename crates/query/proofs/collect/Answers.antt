-- `query::collect` meets its contract: the loop reads the blocks of the rows that it chooses. Assumes nothing.
use mathlib.Core.Path.{sym, ◌∙◌}
use mathlib.Core.List.{[]}
use lib.Dec.{eqb}
use native.Mathlib.Omega.{arith}
use lib.ListN.{get_or}
use Rattle.refusal.proofs.Numbers.{handed_on}
use Rattle.query.proofs.Collecting.{collecting_start, collected_end, collected_limit, collecting_skip, collected_refused, collecting_next, at_most_one}
use Rattle.query.proofs.collect.Goals as goal
use Rattle.query.proofs.collect.Goals.{then-is_chosen+else-limit-n+in_ok-block, else-is_chosen}

pub loop-row-init : goal.loop-row-init
loop-row-init c =
    let a = c.args in
    collecting_start a.log.now a.author a.limit a.rows.now a.out.now c.requires

pub returns-then-limit-n : goal.returns-then-limit-n
returns-then-limit-n c =
    let a = c.args in
    let h = collected_limit a.log.now a.author a.limit a.rows.now c.loop-row.invariant c.if-limit-n.true in
    record { value = h.0; holds_rows = h.1 }

pub returns-in_err-block : goal.returns-in_err-block
returns-in_err-block c =
    let a = c.args in
    let h =
    collected_refused a.log.now a.author a.limit a.rows.now c.loop-row.invariant c.loop-row-test.true
    (sym c.is_chosen.ensures ∙ c.if-is_chosen.true) (omega arith) (sym c.in_err-block.was ∙ c.read_block.ensures) in
    record { value = handed_on c.from_residual.result c.from_residual.ensures ∙ h.0; holds_rows = h.1 }

pub overflow_add-unloaded : goal.overflow_add-unloaded
overflow_add-unloaded c =
    omega (arith, c.ranges.limit.fits, c.loop-row.invariant.few, at_most_one (eqb (get_or (get_or c.args.rows.now c.loop-row.row-index []) 7 0) 0), c.not_loaded-unloaded.ensures)

pub loop-row-preserved : goal.loop-row-preserved
loop-row-preserved c =
    let a = c.args in
    let h = c.loop-row.invariant in
    elim c.if-is_chosen.branch [
      | then-is_chosen+else-limit-n+in_ok-block w ↦
          rw (w.out-is, w.n-is, w.unloaded-is)
          (collecting_next a.log.now a.author a.limit a.rows.now h c.loop-row-test.true (sym c.is_chosen.ensures ∙ w.if-is_chosen.true)
          (omega arith) w.in_ok-block.ensures w.put_answer.ensures w.not_loaded-unloaded.ensures)
      | else-is_chosen w ↦
          rw (w.out-is, w.n-is, w.unloaded-is)
          (collecting_skip a.log.now a.author a.limit a.rows.now h c.loop-row-test.true (sym c.is_chosen.ensures ∙ w.if-is_chosen.false))
    ]

pub returns-after-loop-row : goal.returns-after-loop-row
returns-after-loop-row c =
    let a = c.args in
    let h = collected_end a.log.now a.author a.limit a.rows.now c.loop-row.invariant c.loop-row-test.false in
    record { value = h.0; holds_rows = h.1 }
