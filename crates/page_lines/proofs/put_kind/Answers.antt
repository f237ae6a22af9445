-- `page_lines::put_kind` meets its contract. Assumes nothing.
use native.Mathlib.Omega.{arith}
use Rattle.laws.specs.Ascii.{ascii}
use Rattle.text.proofs.Columns.{length_blanks}
use Rattle.text.proofs.Put.{then_put}
use Rattle.page_lines.proofs.Fields.{right_ends, left_ends, payload_put, block_put}
use Rattle.page_lines.proofs.put_kind.Goals as goal

pub put_blanks-requires : goal.put_blanks-requires
unfolding ascii
put_blanks-requires c =
    omega (arith, left_ends (ascii "payload") (omega arith) c.put_left-third.ensures)

pub returns-then-kind-eq2 : goal.returns-then-kind-eq2
unfolding ascii
returns-then-kind-eq2 c =
    record {
      put = payload_put c.args.kind c.args.author c.args.round c.if-kind-eq2.true
          (then_put c.put_left-third.ensures c.put_blanks.ensures);
      upper_bound = omega (arith, left_ends (ascii "payload") (omega arith) c.put_left-third.ensures, c.put_blanks.ensures.next, length_blanks 25);
    }

pub put_byte-fourth-requires : goal.put_byte-fourth-requires
unfolding ascii
put_byte-fourth-requires c =
    omega (arith, left_ends (ascii "block") (omega arith) c.put_left-third-2.ensures)

pub put_right-fifth-requires : goal.put_right-fifth-requires
unfolding ascii
put_right-fifth-requires c =
    (omega (arith, left_ends (ascii "block") (omega arith) c.put_left-third-2.ensures, c.put_byte-fourth.ensures.next), omega arith)

pub put_byte-sixth-requires : goal.put_byte-sixth-requires
unfolding ascii
put_byte-sixth-requires c =
    omega (arith, left_ends (ascii "block") (omega arith) c.put_left-third-2.ensures, c.put_byte-fourth.ensures.next, right_ends _ _ (omega arith) (omega arith) c.put_right-fifth.ensures, c.requires)

pub put_right-requires : goal.put_right-requires
unfolding ascii
put_right-requires c = (
  omega (arith, left_ends (ascii "block") (omega arith) c.put_left-third-2.ensures, c.put_byte-fourth.ensures.next, right_ends _ _ (omega arith) (omega arith) c.put_right-fifth.ensures, c.put_byte-sixth.ensures.next, c.requires),
  omega arith,
)

pub returns : goal.returns
unfolding ascii
returns c =
    record {
      put = block_put c.args.kind c.args.author c.args.round c.if-kind-eq2.false
          (then_put (then_put (then_put (then_put c.put_left-third-2.ensures c.put_byte-fourth.ensures) c.put_right-fifth.ensures) c.put_byte-sixth.ensures) c.put_right.ensures);
      upper_bound = omega (arith, left_ends (ascii "block") (omega arith) c.put_left-third-2.ensures, c.put_byte-fourth.ensures.next, right_ends _ _ (omega arith) (omega arith) c.put_right-fifth.ensures, c.put_byte-sixth.ensures.next, right_ends _ _ (omega arith) (omega arith) c.put_right.ensures);
    }
