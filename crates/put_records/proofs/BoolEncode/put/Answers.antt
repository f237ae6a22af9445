-- `put` of a bool meets its contract. Assumes nothing.
use native.Mathlib.Omega.{arith}
use Rattle.put_records.proofs.Lengths.{length_bool}
use Rattle.put_records.proofs.Puts.{put_flag}
use Rattle.put_records.proofs.BoolEncode.put.Goals as goal

pub bounds-out-at : goal.bounds-out-at
bounds-out-at c = omega (arith, length_bool c.args.self)

pub returns : goal.returns
returns c = rw c.from.ensures (put_flag c.args.self c.requires)
