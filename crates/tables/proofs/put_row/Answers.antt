-- `tables::put_row` meets its contract. Assumes nothing.
use Prim.Native.Nat.{◌*◌}
use native.Mathlib.Omega.{arith}
use Rattle.tables.proofs.Stores.{put_written}
use Rattle.tables.proofs.put_row.Goals as goal

pub returns : goal.returns
returns c = put_written c.args.t.now (8 * c.args.i) _ c.copy_from_slice.ensures.after (omega arith)
