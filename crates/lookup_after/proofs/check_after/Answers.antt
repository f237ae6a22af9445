-- `lookup_after::check_after` meets its contract: 19 comes behind the checks of every call. Assumes nothing.
use mathlib.Core.Path.{◌∙◌}
use Rattle.refusal.proofs.Numbers.{handed_on}
use Rattle.lookup_after.proofs.After.{after_refused, after_last, after_passed}
use Rattle.lookup_after.proofs.check_after.Goals as goal

pub returns-in_err-check : goal.returns-in_err-check
returns-in_err-check c =
    handed_on c.from_residual.result c.from_residual.ensures ∙ after_refused c.args.view.now c.args.from_excluded c.in_err-check.ensures

pub returns-then-from_excluded-eq-HIGHEST : goal.returns-then-from_excluded-eq-HIGHEST
returns-then-from_excluded-eq-HIGHEST c =
    after_last c.args.view.now c.args.from_excluded c.in_ok-check.ensures c.if-from_excluded-eq-HIGHEST.true

pub returns : goal.returns
returns c = after_passed c.args.view.now c.args.from_excluded c.in_ok-check.ensures c.if-from_excluded-eq-HIGHEST.false
