-- `page_put::put_pages` meets its contract: the pages of the first rows are put, and those of the rest are left. Assumes nothing.
use native.Mathlib.Omega.{arith}
use borrow.Author.Tests.{true-eqb, false-eqb}
use lib.ListN.{length, length-take}
use mathlib.Core.Path.{ap}
use Prim.Native.Nat.{◌<◌}
use Rattle.page_lines.specs.Words.{foot_text}
use Rattle.page_put.proofs.Pages.{Paging, paging_start, paging_next, paging_done}
use Rattle.page_put.proofs.put_pages.Goals as goal
use Rattle.page_put.proofs.put_pages.Goals.{Else-is_empty}

pub loop-later-init : goal.loop-later-init
loop-later-init c = paging_start c.args.pending.now (foot_text (length c.args.pending.now) c.args.unprocessed c.args.committed c.args.stop) c.args.out.now

pub put_page-at-requires : goal.put_page-at-requires
put_page-at-requires c =
    let h = c.loop-later.invariant in
    (omega (arith, h.most, c.requires), omega (arith, h.fewer, c.requires, ap length c.split_at.ensures.front, length-take c.min.result c.loop-later.rest.now))

pub returns-then-is_empty : goal.returns-then-is_empty
returns-then-is_empty c =
    paging_done c.loop-later.invariant c.min.ensures c.split_at.ensures.front c.split_at.ensures.back c.put_page-at.ensures.put (true-eqb _ _ c.if-is_empty.ensures)

-- the pages of the rows behind this page are left
next : (c : Else-is_empty)
    → Paging c.args.pending.now (foot_text (length c.args.pending.now) c.args.unprocessed c.args.committed c.args.stop) c.args.out.now c.put_page-at.new.out c.split_at.result.1.now c.put_page-at.result
    × (length c.split_at.result.1.now < length c.loop-later.rest.now)
next c =
    paging_next c.loop-later.invariant c.min.ensures c.split_at.ensures.front c.split_at.ensures.back c.put_page-at.ensures.put (false-eqb _ _ c.if-is_empty.ensures) c.put_page-at.ensures.value

pub loop-later-smaller : goal.loop-later-smaller
loop-later-smaller c = (next c).1

pub loop-later-preserved : goal.loop-later-preserved
loop-later-preserved c = (next c).0
