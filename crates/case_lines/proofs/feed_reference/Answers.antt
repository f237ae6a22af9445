-- `case_lines::feed_reference` meets its contract: the parts are fed one after the other. Assumes nothing.
use Rattle.laws.specs.Bytes.{le}
use Rattle.case_lines.specs.Cases.{found_reference_bytes}
use Rattle.case_lines.proofs.Words.{fed_four}
use Rattle.case_lines.proofs.feed_reference.Goals as goal

pub returns : goal.returns
unfolding found_reference_bytes
returns c =
    let r = c.in-Some.reference in
    rw c.in-Some.is
    (fed_four c.args.register (le 8 1) (le 8 r.authority) (le 8 r.round) r.digest.0
    c.feed_word-one.ensures c.feed_word-two.ensures c.feed_word-three.ensures c.update-2.ensures)
