-- `page_lines::put_end` meets its contract. Assumes nothing.
use Prim.Native.Nat.{◌-◌}
use native.Mathlib.Omega.{arith}
use Rattle.text.proofs.Columns.{length_blanks}
use Rattle.page_lines.proofs.Fields.{end_put}
use Rattle.page_lines.proofs.put_end.Goals as goal

pub put_byte-requires : goal.put_byte-requires
put_byte-requires c =
    omega (arith, c.put_blanks-end.ensures.next, length_blanks c.missing.result, c.missing.ensures)

pub returns : goal.returns
returns c =
    end_put (c.args.at - c.args.start) c.missing.result c.missing.ensures
    c.put_blanks-end.ensures c.put_byte.ensures
