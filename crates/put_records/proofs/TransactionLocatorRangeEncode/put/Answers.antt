-- `put` of a range meets its contract. Assumes nothing.
use native.Mathlib.Omega.{arith}
use Rattle.types.specs.Records.{range_bytes}
use Rattle.put_records.proofs.Puts.{then_put, put_number}
use Rattle.put_records.proofs.TransactionLocatorRangeEncode.put.Goals as goal

pub returns : goal.returns
unfolding range_bytes
returns c =
    let r = c.args.self in
    then_put (then_put c.put-p.ensures
    (put_number 8 r.offset_start_inclusive c.put_u64.ensures (omega arith))
    (omega arith)) (put_number 8 r.offset_end_exclusive c.put_u64-2.ensures (omega arith)) (omega arith)
