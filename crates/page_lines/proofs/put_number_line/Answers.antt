-- `page_lines::put_number_line` meets its contract. Assumes nothing.
use mathlib.Core.Path.{◌∙◌}
use native.Mathlib.Omega.{arith}
use Rattle.page_lines.specs.Lines.{number_line}
use Rattle.page_lines.proofs.Fields.{line_put, right_ends}
use Rattle.page_lines.proofs.put_number_line.Goals as goal

pub put_end-requires : goal.put_end-requires
put_end-requires c =
    omega (arith, right_ends _ _ (omega arith) (omega arith) c.put_right-end.ensures, c.put_right-end.ensures.next)

pub returns : goal.returns
unfolding number_line
returns c =
    rw (← c.from.ensures)
    (line_put c.put_right-end.ensures
    (omega (arith, right_ends _ _ (omega arith) (omega arith) c.put_right-end.ensures))
    c.put_end.ensures).0
