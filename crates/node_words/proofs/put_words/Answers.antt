-- `node_words::put_words` meets its contract. Assumes nothing.
use Rattle.std.proofs.Common.{sym, ◌∙◌, arith}
use lib.Seq.{length-take-le}
use Rattle.laws.proofs.Written.{put_mid-written}
use Rattle.text.proofs.Clipped.{clipped_outside, clipped_written}
use Rattle.node_words.proofs.put_words.Goals as goal

pub returns-then-out-at : goal.returns-then-out-at
returns-then-out-at c = sym (clipped_outside c.args.out.now c.args.at c.args.words.now c.if-out-at.true)

pub returns : goal.returns
returns c =
    let a = c.args in
    let n = c.min-n.result in
    let long = length-take-le n a.words.now (omega arith) in
    put_mid-written a.out.now a.at _ c.copy_from_slice.ensures.after (omega (arith, long))
    ∙ clipped_written a.out.now a.at n a.words.now (omega arith) c.min-n.ensures
