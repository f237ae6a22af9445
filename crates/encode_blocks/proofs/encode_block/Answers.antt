-- `encode_blocks::encode_block` meets its contract. Assumes nothing.
use mathlib.Core.Bool.{Bool}
use mathlib.Core.Path.{◌≡◌, refl}
use mathlib.Core.Option.{some}
use native.Mathlib.Omega.{arith}
use lib.ListN.{length, length-append}
use Rattle.types.specs.Records.{block_bytes}
use Rattle.encode.proofs.Encodings.{Tested, tested, room, fits, full, malformed}
use Rattle.put_records.proofs.Puts.{then_put}
use Rattle.encode_blocks.specs.Whole.{laid_out}
use Rattle.encode_blocks.specs.Blocks.{block_from, head_bytes, tail_bytes}
use Rattle.encode_blocks.proofs.Blocks.{written_block, block_size, no_includes, no_statements, block_laid}
use borrow.Author.Rules.{rules}
use Rattle.encode_blocks.proofs.encode_block.Goals as goal
use Rattle.encode_blocks.proofs.encode_block.Goals.{After-has_room_for, Else-not-are_all-2, Start}

all-32 : (c : Start) → length c.args.block.reference.digest.0 ≡ 32
all-32 c = search rules

all-64 : (c : Start) → length c.args.block.signature.0 ≡ 64
all-64 c = search rules

laid : (c : Else-not-are_all-2) → (laid_out block_bytes (block_from c.args.block c.args.includes.now c.args.statements.now) ≡ some ((written_block c.args.block c.args.includes.now c.args.statements.now)))
laid c =
    let a = c.args in
    block_laid a.block a.includes.now a.statements.now c.are_all.ensures
    c.are_all-2.ensures c.if-not-are_all.false c.if-not-are_all-2.false
    (λ i. omega (arith, c.shared_slice_known-1.given i))
    (λ i. omega (arith, c.shared_slice_known-2-1.given i))

test : (c : After-has_room_for) → (λ (there : Bool). Tested c.args.out.now c.args.at ((written_block c.args.block c.args.includes.now c.args.statements.now)) there) c.has_room_for.result
test c =
    tested c.args.out.now c.args.at ((written_block c.args.block c.args.includes.now c.args.statements.now)) c.has_room_for.ensures
    (block_size c.args.block c.args.includes.now c.args.statements.now ((search rules)) ((search rules)))

pub returns-then-not-are_all : goal.returns-then-not-are_all
returns-then-not-are_all c =
    let a = c.args in
    rw (no_includes a.block a.includes.now a.statements.now c.are_all.ensures refl c.if-not-are_all.true)
    (malformed a.out.now a.at)

pub returns-then-not-are_all-2 : goal.returns-then-not-are_all-2
returns-then-not-are_all-2 c =
    let a = c.args in
    let includes = c.if-not-are_all.false in
    rw (no_statements a.block a.includes.now a.statements.now c.are_all.ensures
    c.are_all-2.ensures includes c.if-not-are_all-2.true)
    (malformed a.out.now a.at)

pub returns-then-not-has_room_for : goal.returns-then-not-has_room_for
returns-then-not-has_room_for c = rw (laid (goal.at.returns-then-not-has_room_for c).Else-not-are_all-2) (full (test (goal.at.returns-then-not-has_room_for c).After-has_room_for) c.if-not-has_room_for.true)

pub put_head-p-requires : goal.put_head-p-requires
put_head-p-requires c =
    let a = c.args in
    omega (
      arith,
      room (test (goal.at.put_head-p-requires c).After-has_room_for) c.if-not-has_room_for.false,
      length-append
          (head_bytes a.block a.includes.now a.statements.now) (tail_bytes a.block),
    )

pub put_tail-requires : goal.put_tail-requires
put_tail-requires c =
    let a = c.args in
    omega (
      arith,
      room (test (goal.at.put_tail-requires c).After-has_room_for)
          c.if-not-has_room_for.false,
      length-append
          (head_bytes a.block a.includes.now a.statements.now) (tail_bytes a.block),
      c.put_head-p.ensures.end,
      c.put_head-p.auto.out,
    )

pub returns : goal.returns
returns c =
    let within = room (test (goal.at.returns c).After-has_room_for) c.if-not-has_room_for.false in
    rw (laid (goal.at.returns c).Else-not-are_all-2)
    (fits (test (goal.at.returns c).After-has_room_for) c.if-not-has_room_for.false
    (then_put c.put_head-p.ensures c.put_tail.ensures (omega (arith, within))))
