-- `exists::all_blocks_exists_at_authority_round` meets its contract: the round is looked for first. Assumes nothing.
use mathlib.Core.Path.{ap, ◌∙◌}
use Rattle.std.proofs.Common.{Ok}
use Rattle.refusal.proofs.Numbers.{handed_on}
use Rattle.wal_position.proofs.Checks.{refused_by, passed_by}
use Rattle.store.specs.Store.{indexed}
use Rattle.store.specs.Views.{view_check}
use Rattle.store.proofs.Checked.{view_checked}
use Rattle.exists.proofs.Answering.{none_there, some_there}
use Rattle.exists.proofs.all_blocks_exists_at_authority_round.Goals as goal

pub returns-in_err-check : goal.returns-in_err-check
returns-in_err-check c =
    handed_on c.from_residual.result c.from_residual.ensures ∙ refused_by (view_check c.args.view.now) _ c.in_err-check.ensures

pub rows-rows-requires : goal.rows-rows-requires
rows-rows-requires c = (view_checked c.args.view.now c.in_ok-check.ensures).fits

pub round_exists-requires : goal.round_exists-requires
round_exists-requires c = rw c.rows-rows.ensures (view_checked c.args.view.now c.in_ok-check.ensures).ascends

pub all_exist-requires : goal.all_exist-requires
all_exist-requires c = rw c.rows-rows.ensures (view_checked c.args.view.now c.in_ok-check.ensures).ascends

pub returns-then-round_exists : goal.returns-then-round_exists
returns-then-round_exists c =
    let a = c.args in
    let v = a.view.now in
    let there = rw c.rows-rows.ensures at c.round_exists.ensures in
    let all = rw c.rows-rows.ensures at c.all_exist.ensures in
    ap Ok (all ∙ some_there a.authorities.now a.round (indexed v.store v.index.now) there c.if-round_exists.true)
    ∙ passed_by (view_check v) _ c.in_ok-check.ensures

pub returns-else-round_exists : goal.returns-else-round_exists
returns-else-round_exists c =
    let a = c.args in
    let v = a.view.now in
    let there = rw c.rows-rows.ensures at c.round_exists.ensures in
    ap Ok (c.if-round_exists.false ∙ none_there a.authorities.now a.round (indexed v.store v.index.now) there c.if-round_exists.false)
    ∙ passed_by (view_check v) _ c.in_ok-check.ensures
