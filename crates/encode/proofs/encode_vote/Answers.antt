-- `encode::encode_vote` meets its contract. Assumes nothing.
use mathlib.Core.Path.{refl}
use native.Mathlib.Omega.{arith}
use borrow.Author.Rules.{rules}
use Rattle.types.specs.Records.{vote_on, statement_bytes}
use Rattle.put_records.specs.Votes.{vote_value}
use Rattle.put_records.proofs.Puts.{then_put, put_number}
use Rattle.encode.proofs.Sizes.{vote_on_length}
use Rattle.encode.proofs.Encodings.{Tested, tested, fits, full}
use Rattle.encode.proofs.encode_vote.Goals as goal
use Rattle.encode.proofs.encode_vote.Goals.{After-has_room}

test : (c : After-has_room) → Tested c.args.out.now c.args.at (statement_bytes (vote_on c.args.locator (vote_value c.args.vote))) c.has_room.result
test c =
    let v = vote_value c.args.vote in
    tested c.args.out.now c.args.at (statement_bytes (vote_on c.args.locator v)) c.has_room.ensures
    (omega (arith, vote_on_length c.args.locator v, c.size.ensures.counted, c.size-2.ensures.counted))

pub returns-then-not-has_room : goal.returns-then-not-has_room
returns-then-not-has_room c = full (test (goal.at.returns-then-not-has_room c).After-has_room) c.if-not-has_room.true

pub returns : goal.returns
unfolding statement_bytes
returns c =
    fits (test (goal.at.returns c).After-has_room) c.if-not-has_room.false
    (then_put (then_put (put_number 4 1 c.put_u32.ensures refl) c.put-p.ensures (search rules)) c.put.ensures (search rules))
