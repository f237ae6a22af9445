-- `transaction::share_in` meets its contract: a step is one of the offset's. Assumes nothing.
use Rattle.types.specs.Records as records
use Rattle.transaction.proofs.Steps.{Stepping}
use Rattle.transaction.proofs.share_in.Given as goal

abbrev pub invariant-loop : goal.invariant-loop
invariant-loop l = Stepping records.statement l.block l.offset l.initial.c l.counter l.c
