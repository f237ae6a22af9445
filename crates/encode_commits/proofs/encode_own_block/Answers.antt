-- `encode_commits::encode_own_block` meets its contract. Assumes nothing.
use mathlib.Core.Bool.{Bool}
use mathlib.Core.Path.{◌≡◌}
use mathlib.Core.List.{◌++◌}
use mathlib.Core.Option.{some}
use native.Mathlib.Omega.{arith}
use Rattle.laws.specs.Bytes.{le}
use Rattle.types.specs.Records.{block}
use Rattle.put_records.proofs.Lengths.{length_counted}
use Rattle.encode_commits.proofs.Commits.{own_block_laid}
use Rattle.encode.proofs.Encodings.{Tested, tested, room, fits, full, malformed}
use Rattle.encode_blocks.specs.Whole.{whole, laid_out}
use Rattle.encode_blocks.proofs.Wholes.{nothing_laid}
use Rattle.encode_commits.specs.Commits.{own_block_with}
use Rattle.encode_commits.proofs.encode_own_block.Goals as goal
use Rattle.encode_commits.proofs.encode_own_block.Goals.{After-has_room, Else-not-is_block}

laid : (c : Else-not-is_block) → (laid_out (own_block_with c.args.next_entry.0) (whole (block) c.args.bytes.now) ≡ some ((le 8 c.args.next_entry.0 ++ c.args.bytes.now)))
laid c =
    let a = c.args in
    own_block_laid a.next_entry.0 a.bytes.now c.is_block.ensures c.if-not-is_block.false
    (λ i. omega (arith, c.shared_slice_known-1.given i))

test : (c : After-has_room) → (λ (there : Bool). Tested c.args.out.now c.args.at ((le 8 c.args.next_entry.0 ++ c.args.bytes.now)) there) c.has_room.result
test c =
    tested c.args.out.now c.args.at ((le 8 c.args.next_entry.0 ++ c.args.bytes.now)) c.has_room.ensures
    (length_counted c.args.next_entry.0 c.args.bytes.now)

pub returns-then-not-is_block : goal.returns-then-not-is_block
returns-then-not-is_block c =
    let a = c.args in
    rw (nothing_laid (block) (own_block_with a.next_entry.0) a.bytes.now c.is_block.ensures c.if-not-is_block.true)
    (malformed a.out.now a.at)

pub returns-then-not-has_room : goal.returns-then-not-has_room
returns-then-not-has_room c = rw (laid (goal.at.returns-then-not-has_room c).Else-not-is_block) (full (test (goal.at.returns-then-not-has_room c).After-has_room) c.if-not-has_room.true)

pub put_counted-requires : goal.put_counted-requires
put_counted-requires c =
    let a = c.args in
    omega (arith, room (test (goal.at.put_counted-requires c).After-has_room) c.if-not-has_room.false, length_counted a.next_entry.0 a.bytes.now)

pub returns : goal.returns
returns c =
    rw (laid (goal.at.returns c).Else-not-is_block)
    (fits (test (goal.at.returns c).After-has_room) c.if-not-has_room.false
    c.put_counted.ensures)
