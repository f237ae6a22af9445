-- `put_records::put_counted` meets its contract. Assumes nothing.
use mathlib.Core.Path.{refl}
use native.Mathlib.Omega.{arith}
use Rattle.put_records.proofs.Puts.{then_put, put_number, put_bytes}
use Rattle.put_records.proofs.put_counted.Goals as goal

pub returns : goal.returns
returns c =
    then_put (put_number 8 c.args.n
    c.put_u64.ensures refl) (put_bytes
    c.put_bytes.ensures) (omega arith)
