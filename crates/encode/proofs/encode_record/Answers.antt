-- `encode::encode_record` meets its contract. Assumes nothing.
use mathlib.Core.Path.{sym}
use Rattle.encode.proofs.Encodings.{tested, room, fits, full}
use Rattle.encode.proofs.encode_record.Goals as goal

pub returns-then-not-has_room : goal.returns-then-not-has_room
returns-then-not-has_room g c =
    full (tested c.args.out.now c.args.at _ c.has_room.ensures (sym c.size.ensures.counted)) c.if-not-has_room.true

pub put-requires : goal.put-requires
put-requires g c =
    room (tested c.args.out.now c.args.at _ c.has_room.ensures (sym c.size.ensures.counted)) c.if-not-has_room.false

pub returns : goal.returns
returns g c =
    fits (tested c.args.out.now c.args.at _ c.has_room.ensures (sym c.size.ensures.counted)) c.if-not-has_room.false c.put.ensures
