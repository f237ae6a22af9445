-- `rows::compare_key` meets its contract. Assumes nothing.
use native.Mathlib.Omega.{arith}
use Rattle.rows.proofs.Comparing.{comparing_start, comparing_below, comparing_above, comparing_next, comparing_done}
use Rattle.rows.proofs.compare_key.Goals as goal

pub loop-j-init : goal.loop-j-init
loop-j-init _ c = comparing_start c.args.row.now c.args.k.now

pub returns-then-row-j : goal.returns-then-row-j
returns-then-row-j _ c = comparing_below c.loop-j.invariant (omega arith) (omega arith) (omega arith) (omega arith)

pub returns-then-k-j : goal.returns-then-k-j
returns-then-k-j _ c = comparing_above c.loop-j.invariant (omega arith) (omega arith) (omega arith) (omega arith)

pub loop-j-preserved : goal.loop-j-preserved
loop-j-preserved _ c = comparing_next c.loop-j.invariant (omega arith) (omega arith) (omega arith) (omega arith) (omega arith)

pub returns : goal.returns
returns _ c = comparing_done c.loop-j.invariant (omega arith) (omega arith) (omega arith)
