-- `store::BlockStore::open` meets its contract: refused as the recovery was, then by the committee. Assumes nothing.
use mathlib.Core.Path.{◌≡◌, sym, ap, ◌∙◌}
use Prim.Native.Nat.{ℕ}
use Rattle.std.proofs.Common.{Result, Ok}
use Rattle.refusal.proofs.Numbers.{handed_on}
use Rattle.wal_position.proofs.Checks.{refused_by, passed_by}
use Rattle.wal.specs.declared.RefusedAt.{RefusedAt}
use Rattle.wal.specs.declared.Walked.{Walked}
use Rattle.committee.specs.Committee.{committee_check}
use Rattle.store.specs.Store.{opened_by, opened_of}
use Rattle.store.proofs.BlockStore.open.Goals as goal

pub returns-in_err-check_committee : goal.returns-in_err-check_committee
unfolding opened_by
returns-in_err-check_committee c =
    let a = c.args in
    rw c.in_default.is
    (handed_on c.from_residual.result c.from_residual.ensures ∙ refused_by (committee_check a.committee_size a.authority) _ c.in_err-check_committee.ensures)

pub returns : goal.returns
unfolding opened_by opened_of
returns c =
    let a = c.args in
    rw c.in_default.is (passed_by (committee_check a.committee_size a.authority) _ c.in_ok-check_committee.ensures)

pub returns-in-Err : goal.returns-in-Err
unfolding opened_by
returns-in-Err c = rw c.in-Err.is
