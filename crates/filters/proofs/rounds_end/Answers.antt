-- `filters::rounds_end` meets its contract: the loop passes the rows of as many rounds. Assumes nothing.
use mathlib.Core.Path.{sym, ◌∙◌}
use native.Mathlib.Omega.{arith}
use Rattle.filters.proofs.Rounds.{passing_start, passing_done, passing_full, passing_begins, passing_goes}
use Rattle.filters.proofs.rounds_end.Goals as goal
use Rattle.filters.proofs.rounds_end.Goals.{then-ne+else-left-eq0, else-ne}

pub loop-i-init : goal.loop-i-init
loop-i-init c = passing_start c.args.rows.now c.args.limit

pub returns-then-left-eq0 : goal.returns-then-left-eq0
returns-then-left-eq0 c =
    passing_full c.loop-i.invariant c.loop-i-test.true (sym c.ne.ensures ∙ c.if-ne.true) c.if-left-eq0.true

pub loop-i-preserved : goal.loop-i-preserved
loop-i-preserved c =
    elim c.if-ne.branch [
      | then-ne+else-left-eq0 w ↦
          rw (w.left-is, w.last-is) (passing_begins c.loop-i.invariant c.loop-i-test.true (sym c.ne.ensures ∙ w.if-ne.true) (omega arith))
      | else-ne w ↦
          rw (w.left-is, w.last-is) (passing_goes c.loop-i.invariant c.loop-i-test.true (sym c.ne.ensures ∙ w.if-ne.false))
    ]

pub returns : goal.returns
returns c = passing_done c.loop-i.invariant (omega arith)
