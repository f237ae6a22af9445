-- `page_put::put_rows` meets its contract: the rows before this one are put. Assumes nothing.
use mathlib.Core.List.{[]}
use Rattle.std.proofs.lemmas.List.{take_more}
use Rattle.page_put.proofs.Pages.{rowing_start, rowing_next}
use Rattle.page_put.proofs.put_rows.Goals as goal

pub loop-row-init : goal.loop-row-init
loop-row-init c = rowing_start c.args.at c.args.out.now

pub loop-row-preserved : goal.loop-row-preserved
loop-row-preserved c =
    let put = c.put_row-next.ensures in
    rw (take_more c.args.rows.now c.loop-row.row-index [] c.loop-row-test.true) (rowing_next _ c.loop-row.invariant put.put put.value)
