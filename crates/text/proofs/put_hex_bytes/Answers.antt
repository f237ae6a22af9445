-- `text::put_hex_bytes` meets its contract. Assumes nothing.
use Rattle.std.proofs.Common.{take, arith}
use lib.Dec.{lit≤}
use lib.Seq.{length-take-le}
use Rattle.laws.specs.Parse.{joined}
use Rattle.text.specs.Digits.{hex_digits, hex_bytes}
use Rattle.text.proofs.Digits.{length_hex_bytes}
use Rattle.text.proofs.Put.{put_none, put_next, put_all}
use Rattle.text.proofs.put_hex_bytes.Goals as goal

pub loop-b-init : goal.loop-b-init
unfolding hex_bytes joined
loop-b-init c = put_none

pub put_hex-next-requires : goal.put_hex-next-requires
put_hex-next-requires c =
    let l = c.loop-b in
    let bytes = c.args.bytes.now in
    (omega (arith, l.invariant.next, length_hex_bytes (take l.b-index bytes), length-take-le l.b-index bytes (omega arith)), lit≤ tt)

pub loop-b-preserved : goal.loop-b-preserved
unfolding hex_bytes
loop-b-preserved c =
    let l = c.loop-b in
    put_next (hex_digits 2) c.args.bytes.now l.b-index l.invariant 0 (omega arith) (rw c.from.ensures at c.put_hex-next.ensures)

pub returns : goal.returns
unfolding hex_bytes
returns c =
    let l = c.loop-b in
    put_all (hex_digits 2) c.args.bytes.now l.b-index l.invariant (omega arith)
