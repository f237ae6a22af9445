-- `reach::any_includes` meets its contract: the loop asks one block after the other. Assumes nothing.
use native.Mathlib.Omega.{arith}
use Rattle.reach.proofs.Asking.{asking_start, row_within, row_parses, asking_skip, asking_found, asking_next, asking_none}
use Rattle.reach.proofs.any_includes.Goals as goal
use Rattle.reach.proofs.any_includes.Goals.{then-row-ne0+else-includes, else-row-ne0}

pub loop-row-init : goal.loop-row-init
loop-row-init c = let a = c.args in asking_start a.image.now a.parents.now a.reference c.requires

pub overflow_add-end : goal.overflow_add-end
overflow_add-end c =
    let a = c.args in
    omega (arith, row_within a.image.now a.parents.now a.reference c.loop-row.invariant c.loop-row-test.true)

pub slice_bounds-includes-end : goal.slice_bounds-includes-end
slice_bounds-includes-end c =
    let a = c.args in
    row_within a.image.now a.parents.now a.reference c.loop-row.invariant c.loop-row-test.true

pub includes-requires : goal.includes-requires
includes-requires c =
    let a = c.args in
    row_parses a.image.now a.parents.now a.reference c.loop-row.invariant c.loop-row-test.true

pub returns-then-includes : goal.returns-then-includes
returns-then-includes c =
    let a = c.args in
    asking_found a.image.now a.parents.now a.reference c.loop-row.invariant c.loop-row-test.true
    c.if-row-ne0.true c.includes.ensures c.if-includes.true

pub loop-row-preserved : goal.loop-row-preserved
loop-row-preserved c =
    let a = c.args in
    elim c.if-row-ne0.branch [
      | then-row-ne0+else-includes w ↦
          asking_next a.image.now a.parents.now a.reference c.loop-row.invariant c.loop-row-test.true
          w.if-row-ne0.true w.includes.ensures w.if-includes.false
      | else-row-ne0 w ↦
          asking_skip a.image.now a.parents.now a.reference c.loop-row.invariant c.loop-row-test.true w.if-row-ne0.false
    ]

pub returns : goal.returns
returns c =
    let a = c.args in
    asking_none a.image.now a.parents.now a.reference c.loop-row.invariant c.loop-row-test.false
