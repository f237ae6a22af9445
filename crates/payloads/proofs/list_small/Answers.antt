-- `payloads::list_small` meets its contract. After i turns the lines of the first i payloads are put. Assumes nothing.
use borrow.Author.Rules.{rules}
use mathlib.Core.List.{[]}
use native.Mathlib.Omega.{arith}
use Rattle.laws.specs.Parse.{joined}
use Rattle.text.proofs.Put.{put_none, put_next, put_all}
use Rattle.payloads.specs.Small.{small_payloads, payload_line, small_text}
use Rattle.payloads.proofs.Request13.{count}
use Rattle.payloads.proofs.Lines.{lines_at_most}
use Rattle.payloads.proofs.list_small.Goals as goal

pub loop-i-init : goal.loop-i-init
unfolding joined
loop-i-init c = (search rules, put_none)

pub put_small-at-requires : goal.put_small-at-requires
put_small-at-requires c =
    let l = c.loop-i in
    (omega (arith, l.invariant.1.next, lines_at_most l.i), omega arith)

pub loop-i-preserved : goal.loop-i-preserved
loop-i-preserved c =
    let l = c.loop-i in
    (omega arith, put_next payload_line small_payloads l.i l.invariant.1 [] (omega (arith, count)) c.put_small-at.ensures)

pub returns : goal.returns
unfolding small_text
returns c =
    let l = c.loop-i in
    put_all payload_line small_payloads l.i l.invariant.1 (omega (arith, count, c.loop-i-test.false))
