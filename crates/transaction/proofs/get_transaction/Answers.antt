-- `transaction::get_transaction` meets its contract: the row with the locator's key is its one row. Assumes nothing.
use mathlib.Core.Path.{◌≡◌, sym, ap, ap₂, ◌∙◌}
use mathlib.Core.List.{List, [], ◌∷◌}
use Prim.Native.Nat.{ℕ}
use native.Mathlib.Omega.{arith}
use lib.ListN.{length, get_or}
use Rattle.refusal.proofs.Numbers.{handed_on}
use Rattle.wal_position.specs.Logs.{of_log}
use Rattle.wal_position.proofs.Checks.{refused_by, passed_by}
use Rattle.rows.specs.Rows.{place_of}
use Rattle.index.specs.Keys.{key_words}
use Rattle.store.specs.Store.{indexed}
use Rattle.store.specs.Views.{view_check}
use Rattle.store.proofs.Checked.{view_checked}
use Rattle.filters.proofs.Slices.{reference_row, reference_absent}
use Rattle.transaction.specs.Transaction.{transaction_of, transaction_answer}
use Rattle.transaction.proofs.get_transaction.Goals as goal
use Rattle.transaction.proofs.get_transaction.Goals.{After-find}

-- where the row is
place : (c : After-find) → c.find.result ≡ place_of (key_words c.args.locator.block) (indexed c.args.view.now.store c.args.view.now.index.now)
place c = c.find.ensures ∙ ap₂ place_of c.key_of.ensures c.rows-rows.ensures

pub returns-in_err-check : goal.returns-in_err-check
unfolding transaction_answer
returns-in_err-check c =
    handed_on c.from_residual.result c.from_residual.ensures ∙ refused_by (view_check c.args.view.now) _ c.in_err-check.ensures

pub rows-rows-requires : goal.rows-rows-requires
rows-rows-requires c = (view_checked c.args.view.now c.in_ok-check.ensures).fits

pub find-requires : goal.find-requires
find-requires c = rw c.rows-rows.ensures (view_checked c.args.view.now c.in_ok-check.ensures).ascends

pub offset_bounds-rows-i : goal.offset_bounds-rows-i
offset_bounds-rows-i c =
    let v = c.args.view.now in
    let ascends = (view_checked v c.in_ok-check.ensures).ascends in
    let at = reference_row (indexed v.store v.index.now) ascends c.args.locator.block (sym c.in-Ok.is ∙ place (goal.at.offset_bounds-rows-i c).After-find) in
    let long : length c.rows-rows.result.now ≡ length (indexed v.store v.index.now) = ap length c.rows-rows.ensures in
    omega (arith, at.0, long, c.rows-rows.type_inv)

pub bounds-rows-i : goal.bounds-rows-i
bounds-rows-i c =
    let v = c.args.view.now in
    let ascends = (view_checked v c.in_ok-check.ensures).ascends in
    rw c.rows-rows.ensures (reference_row (indexed v.store v.index.now) ascends c.args.locator.block (sym c.in-Ok.is ∙ place (goal.at.bounds-rows-i c).After-find)).0

pub returns-in-Ok : goal.returns-in-Ok
unfolding transaction_answer
returns-in-Ok c =
    let a = c.args in
    let v = a.view.now in
    let rows = indexed v.store v.index.now in
    let at = reference_row rows (view_checked v c.in_ok-check.ensures).ascends a.locator.block (sym c.in-Ok.is ∙ place (goal.at.returns-in-Ok c).After-find) in
    c.read_share.ensures
    ∙ ap (of_log transaction_of v.log v.store a.locator.offset) (ap (λ (l : List (List ℕ)). get_or l c.in-Ok.i [] ∷ []) c.rows-rows.ensures ∙ at.1)
    ∙ passed_by (view_check v) _ c.in_ok-check.ensures

pub returns-in-Err : goal.returns-in-Err
unfolding transaction_of transaction_answer
returns-in-Err c =
    let a = c.args in
    let v = a.view.now in
    let rows = indexed v.store v.index.now in
    ap (of_log transaction_of v.log v.store a.locator.offset) (sym (reference_absent rows a.locator.block (sym c.in-Err.is ∙ place (goal.at.returns-in-Err c).After-find)))
    ∙ passed_by (view_check v) _ c.in_ok-check.ensures
