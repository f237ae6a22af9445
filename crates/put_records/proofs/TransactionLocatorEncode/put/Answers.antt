-- `put` of a locator meets its contract. Assumes nothing.
use mathlib.Core.Path.{refl}
use native.Mathlib.Omega.{arith}
use Rattle.types.specs.Records.{locator_bytes}
use Rattle.put_records.proofs.Puts.{then_put, put_number}
use Rattle.put_records.proofs.TransactionLocatorEncode.put.Goals as goal

pub returns : goal.returns
unfolding locator_bytes
returns c =
    then_put c.put-p.ensures
    (put_number 8 c.args.self.offset
    c.put_u64.ensures refl) (omega arith)
