-- `page::recovery_page` meets its contract. Assumes nothing.
use mathlib.Core.Path.{ap, ◌∙◌}
use native.Mathlib.Omega.{arith}
use Prim.Native.Nat.{◌*◌, ◌≤◌, ◌^◌}
use lib.ListN.{length}
use Rattle.rows.proofs.Rows.{length_rows_of}
use Rattle.replay_log.specs.Answers.{tables}
use Rattle.page.proofs.Recoveries.{refused_page, pages_fit, stopped_page}
use Rattle.page.proofs.recovery_page.Goals as goal
use Rattle.page.proofs.recovery_page.Goals.{In-Ok}

-- what is pending is in the table, and few
fit : (c : In-Ok) → (c.recover-r.result.replay.pending ≤ 2 ^ 40) × (8 * c.recover-r.result.replay.pending ≤ length c.recover-r.new.pending)
fit c =
    let a = c.args in
    let log = a.log.now in
    pages_fit log.exponent log.image.now log.used a.size a.own (tables a.pending.now a.unprocessed.now a.committed.now a.index.now) c.recover-r.ensures c.in-Ok.is c.recover-r.auto.pending

pub rows_of-requires : goal.rows_of-requires
rows_of-requires c = (fit (goal.at.rows_of-requires c).In-Ok).1

pub put_pages-length-requires : goal.put_pages-length-requires
put_pages-length-requires c =
    omega (arith, (fit (goal.at.put_pages-length-requires c).In-Ok).0, ap length c.rows_of.ensures ∙ length_rows_of c.recover-r.result.replay.pending c.recover-r.new.pending)

pub returns-in-Ok : goal.returns-in-Ok
returns-in-Ok c =
    let a = c.args in
    let log = a.log.now in
    stopped_page log.exponent log.image.now log.used a.size a.own (tables a.pending.now a.unprocessed.now a.committed.now a.index.now) c.recover-r.ensures c.in-Ok.is c.recover-r.auto.pending c.rows_of.ensures c.put_pages-length.ensures

pub returns-in-Err : goal.returns-in-Err
returns-in-Err c =
    let a = c.args in
    let log = a.log.now in
    refused_page log.exponent log.image.now log.used a.size a.own (tables a.pending.now a.unprocessed.now a.committed.now a.index.now) c.recover-r.ensures c.in-Err.is (rw c.number.ensures at c.put_number_line-length.ensures)
