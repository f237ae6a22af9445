-- `exists::block_exists_at_authority_round` meets its contract: the index tells. Assumes nothing.
use mathlib.Core.Path.{ap, ◌∙◌}
use Rattle.std.proofs.Common.{Ok}
use Rattle.refusal.proofs.Numbers.{handed_on}
use Rattle.wal_position.proofs.Checks.{refused_by, passed_by}
use Rattle.index.specs.Keys.{exists_at}
use Rattle.store.specs.Views.{view_check}
use Rattle.store.proofs.Checked.{view_checked}
use Rattle.exists.proofs.block_exists_at_authority_round.Goals as goal

pub returns-in_err-check : goal.returns-in_err-check
returns-in_err-check c =
    handed_on c.from_residual.result c.from_residual.ensures ∙ refused_by (view_check c.args.view.now) _ c.in_err-check.ensures

pub rows-requires : goal.rows-requires
rows-requires c = (view_checked c.args.view.now c.in_ok-check.ensures).fits

pub exists_at-requires : goal.exists_at-requires
exists_at-requires c = rw c.rows.ensures (view_checked c.args.view.now c.in_ok-check.ensures).ascends

pub returns : goal.returns
returns c =
    let a = c.args in
    ap Ok (rw c.rows.ensures at c.exists_at.ensures) ∙ passed_by (view_check a.view.now) _ c.in_ok-check.ensures
