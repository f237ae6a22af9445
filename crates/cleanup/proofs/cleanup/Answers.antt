-- `cleanup::cleanup` meets its contract: a refusal and t = 0 change nothing. Assumes nothing.
use mathlib.Core.Path.{ap, ◌∙◌}
use Prim.Native.Nat.{ℕ}
use lib.ListN.{length}
use Rattle.std.proofs.Common.{Ok}
use Rattle.refusal.proofs.Numbers.{passed, handed_on}
use Rattle.store.specs.Store.{call_check, indexed}
use Rattle.store.proofs.Checked.{call_checked}
use Rattle.cleanup.proofs.Answering.{cleanup_refused, cleanup_nothing, cleanup_counted, index_refused, index_left, index_unloaded}
use Rattle.cleanup.proofs.cleanup.Goals as goal
use Rattle.cleanup.proofs.cleanup.Goals.{Start}

-- the number that the checks give
abbrev number : Start → ℕ
number c =
    let log = c.args.log.now in
    call_check log.exponent log.used (length log.image.now) c.args.store c.args.index.now

pub returns-in_err-check : goal.returns-in_err-check
returns-in_err-check c =
    let a = c.args in
    let n = number (goal.at.returns-in_err-check c).Start in
    let rows = indexed a.store a.index.now in
    record {
      value = handed_on c.from_residual.result c.from_residual.ensures ∙ cleanup_refused n a.t rows c.in_err-check.ensures;
      index_after = index_refused n a.t rows a.index.now c.in_err-check.ensures;
    }

pub returns-then-t-eq0 : goal.returns-then-t-eq0
returns-then-t-eq0 c =
    let a = c.args in
    let n = number (goal.at.returns-then-t-eq0 c).Start in
    let rows = indexed a.store a.index.now in
    record {
      value = cleanup_nothing n a.t rows c.in_ok-check.ensures c.if-t-eq0.true;
      index_after = index_left n a.t rows a.index.now c.in_ok-check.ensures c.if-t-eq0.true;
    }

pub unload_below_round-requires : goal.unload_below_round-requires
unfolding indexed
unload_below_round-requires c =
    let a = c.args in
    let log = a.log.now in
    let n = number (goal.at.unload_below_round-requires c).Start in
    let h = call_checked log.exponent log.used (length log.image.now) a.store a.index.now (passed n c.in_ok-check.ensures) in
    (h.fits, h.ascends)

pub returns : goal.returns
unfolding indexed
returns c =
    let a = c.args in
    let n = number (goal.at.returns c).Start in
    let rows = indexed a.store a.index.now in
    let done = c.unload_below_round.ensures in
    record {
      value = ap Ok done.value ∙ cleanup_counted n a.t rows c.in_ok-check.ensures c.if-t-eq0.false;
      index_after = done.index_after ∙ index_unloaded n a.t rows a.index.now c.in_ok-check.ensures c.if-t-eq0.false;
    }
