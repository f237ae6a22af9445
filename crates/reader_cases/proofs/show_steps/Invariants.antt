-- `reader_cases::show_steps` is safe and ends: each entry that is listed ends ahead of E and within used. Assumes nothing.
use Prim.Native.Nat.{◌-◌}
use Rattle.wal_position.specs.Logs.{of_log}
use Rattle.wal.proofs.Steps.{Walking}
use Rattle.reader_cases.proofs.show_steps.Given as goal

abbrev pub invariant-loop-step : goal.invariant-loop-step
invariant-loop-step g l = of_log Walking l.log l.e.0

abbrev pub decreases-loop-step : goal.decreases-loop-step
decreases-loop-step g l = l.log.used - l.e.0
