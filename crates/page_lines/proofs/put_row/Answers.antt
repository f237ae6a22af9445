-- `page_lines::put_row` meets its contract: the words of the row are those that `row_text` reads. Assumes nothing.
use native.Mathlib.Omega.{arith}
use Rattle.text.proofs.Put.{then_put}
use Rattle.page_lines.proofs.Fields.{line_put}
use Rattle.page_lines.specs.Words.{row_text}
use Rattle.page_lines.proofs.put_row.Goals as goal

pub returns : goal.returns
unfolding row_text
returns c =
    let parts = then_put c.put_count-second.ensures.put c.put_kind-end.ensures.put in
    let put =
    line_put parts (omega (arith, c.put_count-second.ensures.upper_bound, c.put_kind-end.ensures.upper_bound)) c.put_end.ensures in
    record { put = put.0; value = put.1 }
