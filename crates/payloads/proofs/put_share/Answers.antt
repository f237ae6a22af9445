-- `payloads::put_share` meets its contract: a Share of at most one byte has room, and is one statement. Assumes nothing.
use mathlib.Core.Path.{ap}
use native.Mathlib.Nat.{lt_of_le_of_lt}
use native.Mathlib.Omega.{arith}
use lib.Dec.{lit<}
use lib.ListN.{length}
use Rattle.types.specs.Records.{share, statement_bytes}
use Rattle.encode.proofs.Encodings.{AtStart, at_start, within_at_start, bytes_at_start, length_at_start}
use Rattle.encode.proofs.Sizes.{share_size}
use Rattle.payloads.proofs.Lines.{share_whole, share_counted}
use Rattle.payloads.proofs.put_share.Goals as goal
use Rattle.payloads.proofs.put_share.Goals.{After-encode_share, In-Ok, Start}

encoded : (c : After-encode_share)
    → AtStart (statement_bytes (share c.args.bytes.now)) c.encode_share.result c.encode_share.new.out
encoded c = at_start c.encode_share.ensures (omega (arith, c.requires.1, share_size c.args.bytes.now))

-- another answer than Ok there is not
pub returns-in_default : goal.returns-in_default
returns-in_default c =
    absurd (c.in_default.not-Ok _ (encoded (goal.at.returns-in_default c).After-encode_share).answer)

pub slice_bounds-statement-end : goal.slice_bounds-statement-end
slice_bounds-statement-end c =
    within_at_start (encoded (goal.at.slice_bounds-statement-end c).After-encode_share) c.in-Ok.is

pub slice_bounds-put_payload-end : goal.slice_bounds-put_payload-end
slice_bounds-put_payload-end c =
    length_at_start (encoded (goal.at.slice_bounds-put_payload-end c).After-encode_share) c.in-Ok.is

-- what is passed on: the statement
pub put_payload-requires : goal.put_payload-requires
put_payload-requires c =
    let part = bytes_at_start (encoded (goal.at.put_payload-requires c).After-encode_share) c.in-Ok.is in
    record {
      at_bound = (omega (arith, c.requires.0), omega (arith, ap length part, share_size c.args.bytes.now, c.requires.1));
      statements_value = rw part (share_whole c.args.bytes.now (lt_of_le_of_lt c.requires.1 (lit< tt)));
    }

pub returns : goal.returns
returns c =
    let part = bytes_at_start (encoded (goal.at.returns c).After-encode_share) c.in-Ok.is in
    rw (part, share_counted c.args.bytes.now) at c.put_payload.ensures
