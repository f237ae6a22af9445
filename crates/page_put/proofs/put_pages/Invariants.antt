-- `page_put::put_pages` meets its contract: the pages of the first rows are put, and those of the rest are left. Assumes nothing.
use lib.ListN.{length}
use Rattle.page_lines.specs.Words.{foot_text}
use Rattle.page_put.proofs.Pages.{Paging}
use Rattle.page_put.proofs.put_pages.Given as goal

abbrev pub invariant-loop-later : goal.invariant-loop-later
invariant-loop-later l = Paging l.pending (foot_text (length l.pending) l.unprocessed l.committed l.stop) l.initial.out l.out l.rest l.at

abbrev pub decreases-loop-later : goal.decreases-loop-later
decreases-loop-later l = length l.rest
