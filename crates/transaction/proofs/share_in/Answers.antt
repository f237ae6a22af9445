-- `transaction::share_in` meets its contract: a step is one of the offset's. Assumes nothing.
use mathlib.Core.Path.{◌∙◌}
use native.Mathlib.Omega.{arith}
use Rattle.types.specs.Records as records
use Rattle.transaction.proofs.Steps.{stepping_start}
use Rattle.transaction.proofs.Shares.{undecoded, stepped, stopped, reached}
use Rattle.transaction.proofs.share_in.Goals as goal

pub returns-in_err-b : goal.returns-in_err-b
returns-in_err-b c = rw c.from_residual.ensures (undecoded c.args.block.now c.args.offset c.in_err-b.ensures)

pub loop-init : goal.loop-init
loop-init c = stepping_start records.statement c.args.block.now c.args.offset _

pub returns-in_err-rest : goal.returns-in_err-rest
returns-in_err-rest c =
    rw c.from_residual-in_err-rest.ensures (stopped c.args.block.now c.args.offset c.in_ok-b.ensures c.loop.invariant c.in_err-rest.ensures)

pub loop-preserved : goal.loop-preserved
loop-preserved c = stepped c.args.block.now c.args.offset c.loop.invariant (omega arith) c.in_ok-rest.ensures

pub returns : goal.returns
returns c = c.share_at.ensures ∙ reached c.args.block.now c.args.offset c.in_ok-b.ensures c.loop.invariant (omega arith)
