-- `page_put::put_rows` meets its contract: the rows before this one are put. Assumes nothing.
use lib.ListN.{take}
use Rattle.page_put.proofs.Pages.{Rowing}
use Rattle.page_put.proofs.put_rows.Given as goal

abbrev pub invariant-loop-row : goal.invariant-loop-row
invariant-loop-row l = Rowing l.at l.initial.out l.out l.next (take l.row-index l.rows)
