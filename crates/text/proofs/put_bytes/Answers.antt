-- `text::put_bytes` meets its contract. Assumes nothing.
use Rattle.std.proofs.Common.{refl, add-zero, add-one, get_or, drop-cons, arith}
use lib.ListN.{drop_of_length-le}
use Rattle.text.proofs.Put.{next, done}
use Rattle.text.proofs.put_bytes.Goals as goal

pub loop-i-init : goal.loop-i-init
loop-i-init c = rw add-zero

pub loop-i-preserved : goal.loop-i-preserved
loop-i-preserved c =
    let text = c.args.text.now in
    let l = c.loop-i in
    next l.out c.args.at l.i (get_or text l.i 0) (rw add-one (drop-cons text l.i 0 (omega arith))) c.store.ensures l.invariant

pub returns : goal.returns
returns c =
    let l = c.loop-i in
    record { next = refl; bytes = done l.out _ (drop_of_length-le c.args.text.now {i = l.i} (omega arith)) l.invariant }
