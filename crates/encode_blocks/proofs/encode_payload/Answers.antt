-- `encode_blocks::encode_payload` meets its contract. Assumes nothing.
use mathlib.Core.Bool.{Bool}
use mathlib.Core.Path.{◌≡◌}
use mathlib.Core.List.{◌++◌}
use mathlib.Core.Option.{some}
use native.Mathlib.Omega.{arith}
use Rattle.laws.specs.Bytes.{le}
use Rattle.laws.specs.Parse.{many}
use Rattle.types.specs.Records.{statement as parser, payload_bytes}
use Rattle.put_records.proofs.Lengths.{length_counted}
use Rattle.encode.proofs.Encodings.{Tested, tested, room, fits, full, malformed}
use Rattle.encode_blocks.specs.Whole.{whole, laid_out}
use Rattle.encode_blocks.proofs.Wholes.{nothing_laid}
use Rattle.encode_blocks.proofs.Blocks.{payload_laid}
use Rattle.encode_blocks.proofs.encode_payload.Goals as goal
use Rattle.encode_blocks.proofs.encode_payload.Goals.{After-has_room, Else-not-are_all}

laid : (c : Else-not-are_all) → (laid_out payload_bytes (whole (many parser c.args.count) c.args.statements.now) ≡ some ((le 8 c.args.count ++ c.args.statements.now)))
laid c =
    let a = c.args in
    payload_laid a.count a.statements.now c.are_all.ensures c.if-not-are_all.false
    (λ i. omega (arith, c.shared_slice_known-1.given i))

test : (c : After-has_room) → (λ (there : Bool). Tested c.args.out.now c.args.at ((le 8 c.args.count ++ c.args.statements.now)) there) c.has_room.result
test c =
    let a = c.args in
    tested a.out.now a.at ((le 8 c.args.count ++ c.args.statements.now)) c.has_room.ensures
    (length_counted a.count a.statements.now)

pub returns-then-not-are_all : goal.returns-then-not-are_all
returns-then-not-are_all c =
    let a = c.args in
    rw (nothing_laid (many parser a.count) payload_bytes a.statements.now c.are_all.ensures
    c.if-not-are_all.true) (malformed a.out.now a.at)

pub returns-then-not-has_room : goal.returns-then-not-has_room
returns-then-not-has_room c = rw (laid (goal.at.returns-then-not-has_room c).Else-not-are_all) (full (test (goal.at.returns-then-not-has_room c).After-has_room) c.if-not-has_room.true)

pub put_counted-requires : goal.put_counted-requires
put_counted-requires c =
    let a = c.args in
    omega (arith, room (test (goal.at.put_counted-requires c).After-has_room) c.if-not-has_room.false, length_counted a.count a.statements.now)

pub returns : goal.returns
returns c =
    rw (laid (goal.at.returns c).Else-not-are_all)
    (fits (test (goal.at.returns c).After-has_room) c.if-not-has_room.false
    c.put_counted.ensures)
