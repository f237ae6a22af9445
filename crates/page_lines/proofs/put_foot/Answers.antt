-- `page_lines::put_foot` meets its contract. Assumes nothing.
use native.Mathlib.Omega.{arith}
use Rattle.text.proofs.Put.{then_put}
use Rattle.listing.proofs.Lines.{word_ends}
use Rattle.page_lines.specs.Words.{foot_text}
use Rattle.page_lines.proofs.Fields.{line_put}
use Rattle.page_lines.proofs.put_foot.Goals as goal

pub put_end-requires : goal.put_end-requires
put_end-requires c =
    omega (arith, word_ends c.args.stop c.put_word-end.ensures, c.put_word-end.ensures.next, c.put_count-fourth.ensures, c.put_count-third.ensures, c.put_count-second.ensures, c.requires)

pub returns : goal.returns
unfolding foot_text
returns c =
    let parts =
    then_put (then_put (then_put c.put_count-second.ensures.put c.put_count-third.ensures.put) c.put_count-fourth.ensures.put)
    c.put_word-end.ensures in
    let put =
    line_put parts
    (omega (arith, word_ends c.args.stop c.put_word-end.ensures, c.put_count-fourth.ensures.upper_bound, c.put_count-third.ensures.upper_bound, c.put_count-second.ensures.upper_bound))
    c.put_end.ensures in
    record { put = put.0; value = put.1 }
