-- `encode::encode_share` meets its contract. Assumes nothing.
use borrow.Author.Rules.{rules}
use mathlib.Core.Path.{refl}
use Rattle.bincode.specs.Bincode.{byte_string_bytes}
use Rattle.types.specs.Records.{share, statement_bytes}
use Rattle.put_records.proofs.Puts.{then_put, put_number}
use Rattle.encode.proofs.Sizes.{share_size}
use Rattle.encode.proofs.Encodings.{Tested, tested, fits, full}
use Rattle.encode.proofs.encode_share.Goals as goal
use Rattle.encode.proofs.encode_share.Goals.{After-has_room}

test : (c : After-has_room) → Tested c.args.out.now c.args.at (statement_bytes (share c.args.bytes.now)) c.has_room.result
test c = tested c.args.out.now c.args.at (statement_bytes (share c.args.bytes.now)) c.has_room.ensures (share_size c.args.bytes.now)

pub returns-then-not-has_room : goal.returns-then-not-has_room
returns-then-not-has_room c = full (test (goal.at.returns-then-not-has_room c).After-has_room) c.if-not-has_room.true

pub returns : goal.returns
unfolding statement_bytes byte_string_bytes
returns c =
    fits (test (goal.at.returns c).After-has_room) c.if-not-has_room.false
    (then_put (put_number 4 0 c.put_u32.ensures refl) c.put_counted.ensures (search rules))
