-- `page_lines::put_count` meets its contract. Assumes nothing.
use native.Mathlib.Omega.{arith}
use Rattle.page_lines.proofs.Fields.{right_ends, count_put}
use Rattle.page_lines.proofs.put_count.Goals as goal

pub put_byte-requires : goal.put_byte-requires
put_byte-requires c =
    omega (arith, right_ends _ _ (omega arith) (omega arith) c.put_right-end.ensures)

pub returns : goal.returns
returns c =
    record {
      put = count_put c.args.n c.put_right-end.ensures c.put_byte.ensures;
      upper_bound = omega (arith, c.put_byte.ensures.next, right_ends _ _ (omega arith) (omega arith) c.put_right-end.ensures);
    }
