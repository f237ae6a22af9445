-- `page_lines::put_heading` meets its contract. Assumes nothing.
use native.Mathlib.Omega.{arith}
use Rattle.laws.specs.Ascii.{ascii}
use Rattle.page_lines.specs.Lines.{heading}
use Rattle.page_lines.proofs.Fields.{line_put}
use Rattle.page_lines.proofs.put_heading.Goals as goal

pub returns : goal.returns
unfolding heading ascii
returns c =
    let put = line_put c.put_bytes-end.ensures (omega (arith, c.put_bytes-end.ensures.next)) c.put_end.ensures in
    record { put = put.0; value = put.1 }
