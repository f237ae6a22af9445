-- `encode_blocks::put_head` meets its contract. Assumes nothing.
use native.Mathlib.Omega.{arith}
use Rattle.put_records.proofs.Puts.{then_put}
use Rattle.put_records.proofs.Lengths.{length_counted}
use Rattle.encode_blocks.proofs.Blocks.{head_length}
use Rattle.encode_blocks.proofs.put_head.Goals as goal

pub put-p-requires : goal.put-p-requires
put-p-requires c =
    let a = c.args in
    omega (arith, head_length a.block a.includes.now a.statements.now)

pub put_counted-q-requires : goal.put_counted-q-requires
put_counted-q-requires c =
    let a = c.args in
    omega (
      arith,
      head_length a.block a.includes.now a.statements.now,
      c.put-p.ensures.end,
      c.put-p.auto.out,
      c.requires,
    )

pub put_counted-requires : goal.put_counted-requires
put_counted-requires c =
    let a = c.args in
    omega (
      arith,
      head_length a.block a.includes.now a.statements.now,
      length_counted a.block.include_count
          a.includes.now,
      c.put-p.ensures.end,
      c.put-p.auto.out,
      c.put_counted-q.ensures.end,
      c.put_counted-q.auto.out,
      c.requires,
    )

pub returns : goal.returns
returns c =
    let reference = c.put-p in
    then_put (then_put reference.ensures c.put_counted-q.ensures (omega (arith, c.requires))) c.put_counted.ensures
    (omega (arith, c.requires))
