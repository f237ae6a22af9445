-- `put` of a reference meets its contract. Assumes nothing.
use native.Mathlib.Omega.{arith}
use Rattle.types.specs.Records.{reference_bytes}
use Rattle.put_records.proofs.Puts.{then_put, put_number}
use Rattle.put_records.proofs.BlockReferenceEncode.put.Goals as goal

pub returns : goal.returns
unfolding reference_bytes
returns c =
    let r = c.args.self in
    then_put (then_put
    (put_number 8 r.authority
    c.put_u64.ensures
    (omega arith)) (put_number 8 r.round c.put_u64-2.ensures
    (omega arith)) (omega arith)) c.put.ensures (omega arith)
