-- `encode::encode_vote_range` meets its contract. Assumes nothing.
use mathlib.Core.Path.{refl}
use native.Mathlib.Omega.{arith}
use borrow.Author.Rules.{rules}
use Rattle.types.specs.Records.{vote_range, statement_bytes}
use Rattle.put_records.proofs.Puts.{then_put, put_number}
use Rattle.encode.proofs.Sizes.{vote_range_length}
use Rattle.encode.proofs.Encodings.{Tested, tested, fits, full}
use Rattle.encode.proofs.encode_vote_range.Goals as goal
use Rattle.encode.proofs.encode_vote_range.Goals.{After-has_room}

test : (c : After-has_room) → Tested c.args.out.now c.args.at (statement_bytes (vote_range c.args.range)) c.has_room.result
test c =
    tested c.args.out.now c.args.at (statement_bytes (vote_range c.args.range)) c.has_room.ensures
    (omega (arith, vote_range_length c.args.range, c.size.ensures.counted))

pub returns-then-not-has_room : goal.returns-then-not-has_room
returns-then-not-has_room c = full (test (goal.at.returns-then-not-has_room c).After-has_room) c.if-not-has_room.true

pub returns : goal.returns
unfolding statement_bytes
returns c =
    fits (test (goal.at.returns c).After-has_room) c.if-not-has_room.false
    (then_put (put_number 4 2 c.put_u32.ensures refl) c.put.ensures (search rules))
