-- `reader_cases::show_steps` is safe and ends: each entry that is listed ends ahead of E and within used. Assumes nothing.
use mathlib.Core.Path.{sym, ap, ◌∙◌}
use native.Mathlib.Omega.{arith}
use Rattle.std.proofs.Common.{Ok}
use Rattle.wal.proofs.Steps.{walking_start}
use Rattle.wal_iterator.specs.declared.iterator.Stepped.{Stepped}
use Rattle.wal_iterator.proofs.Stepping.{stepping_next}
use Rattle.reader_cases.proofs.show_steps.Goals as goal

pub loop-step-init : goal.loop-step-init
loop-step-init g c = let log = c.args.log.now in walking_start log.exponent log.image.now log.used

pub loop-step-smaller : goal.loop-step-smaller
loop-step-smaller g c =
    let log = c.args.log.now in
    let is = ap Ok (sym c.in-Entry.is) ∙ sym c.in-Ok.is ∙ ap (λ (x : Stepped). x.step) c.step_through-stepped.ensures in
    let next = stepping_next log.exponent log.image.now log.used c.loop-step.e.0 c.loop-step.invariant c.in-Entry.field-0 is
    (ap (λ (x : Stepped). x.position.0) c.step_through-stepped.ensures) in
    omega (arith, next.0.within, next.1)

pub loop-step-preserved : goal.loop-step-preserved
loop-step-preserved g c =
    let log = c.args.log.now in
    let is = ap Ok (sym c.in-Entry.is) ∙ sym c.in-Ok.is ∙ ap (λ (x : Stepped). x.step) c.step_through-stepped.ensures in
    (stepping_next log.exponent log.image.now log.used c.loop-step.e.0 c.loop-step.invariant c.in-Entry.field-0 is
    (ap (λ (x : Stepped). x.position.0) c.step_through-stepped.ensures)).0
