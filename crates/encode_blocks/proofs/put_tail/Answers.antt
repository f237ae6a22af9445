-- `encode_blocks::put_tail` meets its contract. Assumes nothing.
use mathlib.Core.Path.{refl}
use native.Mathlib.Omega.{arith}
use Rattle.put_records.proofs.Puts.{then_put, put_number}
use Rattle.put_records.proofs.Lengths.{length_bool}
use Rattle.encode_blocks.proofs.Blocks.{tail_length}
use Rattle.encode_blocks.proofs.put_tail.Goals as goal

pub put_u64-requires : goal.put_u64-requires
put_u64-requires c = omega (arith, tail_length c.args.block)

pub overflow_add-at : goal.overflow_add-at
overflow_add-at c =
    omega (
      arith,
      tail_length c.args.block,
      c.requires,
    )

pub put_u64-requires-2 : goal.put_u64-requires-2
put_u64-requires-2 c =
    omega (
      arith,
      tail_length c.args.block,
      c.requires,
      c.put_u64.auto.s,
    )

pub overflow_add-at-2 : goal.overflow_add-at-2
overflow_add-at-2 c =
    omega (
      arith,
      tail_length c.args.block,
      c.requires,
    )

pub put-p-requires : goal.put-p-requires
put-p-requires c =
    let a = c.args in
    omega (
      arith,
      tail_length a.block,
      length_bool a.block.epoch_marker,
      c.requires,
      c.put_u64.auto.s,
      c.put_u64-2.auto.s,
    )

pub put-requires : goal.put-requires
put-requires c =
    let a = c.args in
    omega (
      arith,
      tail_length a.block,
      length_bool a.block.epoch_marker,
      c.requires,
      c.put-p.ensures.end,
      c.put_u64.auto.s,
      c.put_u64-2.auto.s,
      c.put-p.auto.out,
    )

pub returns : goal.returns
returns c =
    let block = c.args.block in
    let low = put_number 8 block.meta_creation_time_ns.low c.put_u64.ensures refl in
    then_put
    (then_put (then_put low (put_number 8 block.meta_creation_time_ns.high c.put_u64-2.ensures (omega arith)) (omega (arith, c.requires)))
    c.put-p.ensures (omega (arith, c.requires)))
    c.put.ensures (omega (arith, c.requires))
