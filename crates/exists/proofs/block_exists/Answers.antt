-- `exists::block_exists` meets its contract: the reference's key is found where it is present. Assumes nothing.
use mathlib.Core.Path.{ap, ap₂, ◌∙◌}
use Rattle.std.proofs.Common.{Ok}
use Rattle.std.specs.Result.{is_ok}
use Rattle.refusal.proofs.Numbers.{handed_on}
use Rattle.wal_position.proofs.Checks.{refused_by, passed_by}
use Rattle.rows.specs.Rows.{place_of}
use Rattle.index.specs.Keys.{key_words}
use Rattle.store.specs.Store.{indexed}
use Rattle.store.specs.Views.{view_check}
use Rattle.store.proofs.Checked.{view_checked}
use Rattle.exists.proofs.Answering.{found_has}
use Rattle.exists.proofs.block_exists.Goals as goal

pub returns-in_err-check : goal.returns-in_err-check
returns-in_err-check c =
    handed_on c.from_residual.result c.from_residual.ensures ∙ refused_by (view_check c.args.view.now) _ c.in_err-check.ensures

pub rows-requires : goal.rows-requires
rows-requires c = (view_checked c.args.view.now c.in_ok-check.ensures).fits

pub find-requires : goal.find-requires
find-requires c = rw c.rows.ensures (view_checked c.args.view.now c.in_ok-check.ensures).ascends

pub returns : goal.returns
returns c =
    let v = c.args.view.now in
    let found = c.find.ensures ∙ ap₂ place_of c.key_of.ensures c.rows.ensures in
    ap Ok (c.is_ok.ensures.value ∙ ap is_ok found ∙ found_has (key_words c.args.reference) (indexed v.store v.index.now))
    ∙ passed_by (view_check v) _ c.in_ok-check.ensures
