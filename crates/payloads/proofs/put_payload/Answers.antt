-- `payloads::put_payload` meets its contract: what it is given are whole statements, and the encoder has room for them. Assumes nothing.
use mathlib.Core.Path.{refl, ap}
use mathlib.Core.List.{◌++◌}
use native.Mathlib.Omega.{arith}
use lib.ListN.{length, take}
use Rattle.laws.specs.Bytes.{le}
use Rattle.text.proofs.Digits.{length_hex_bytes}
use Rattle.text.proofs.Put.{then_put}
use Rattle.put_records.proofs.Lengths.{length_counted}
use Rattle.encode.proofs.Encodings.{AtStart, at_start, within_at_start, bytes_at_start, length_at_start}
use Rattle.encode_blocks.proofs.Blocks.{payload_laid}
use Rattle.payloads.specs.Small.{payload_line}
use Rattle.payloads.proofs.put_payload.Goals as goal
use Rattle.payloads.proofs.put_payload.Goals.{After-encode_payload, In-Ok, Start}

encoded : (c : After-encode_payload)
    → AtStart (le 8 c.args.count ++ c.args.statements.now) c.encode_payload.result c.encode_payload.new.out
encoded c =
    at_start
    (rw (payload_laid c.args.count c.args.statements.now refl c.requires.statements_value
    (λ i. omega (arith, c.type_inv.statements i))) at c.encode_payload.ensures)
    (omega (arith, c.requires.at_bound.1, length_counted c.args.count c.args.statements.now))

-- another answer than Ok there is not
pub returns-in_default : goal.returns-in_default
returns-in_default c =
    absurd (c.in_default.not-Ok _ (encoded (goal.at.returns-in_default c).After-encode_payload).answer)

pub slice_bounds-payload-end : goal.slice_bounds-payload-end
slice_bounds-payload-end c =
    within_at_start (encoded (goal.at.slice_bounds-payload-end c).After-encode_payload) c.in-Ok.is

pub slice_bounds-put_hex_bytes-end : goal.slice_bounds-put_hex_bytes-end
slice_bounds-put_hex_bytes-end c =
    length_at_start (encoded (goal.at.slice_bounds-put_hex_bytes-end c).After-encode_payload) c.in-Ok.is

-- what is shown: the payload, 21 bytes at most
pub put_hex_bytes-next-requires : goal.put_hex_bytes-next-requires
put_hex_bytes-next-requires c =
    let part = bytes_at_start (encoded (goal.at.put_hex_bytes-next-requires c).After-encode_payload) c.in-Ok.is in (
      omega (arith, c.requires.at_bound.0),
      omega (arith, ap length part, length_counted c.args.count c.args.statements.now, c.requires.at_bound.1),
    )

pub put_bytes-requires : goal.put_bytes-requires
put_bytes-requires c =
    let part = bytes_at_start (encoded (goal.at.put_bytes-requires c).After-encode_payload) c.in-Ok.is in
    omega (
      arith,
      c.put_hex_bytes-next.ensures.next,
      length_hex_bytes (take c.in-Ok.end c.encode_payload.new.out),
      ap length part,
      length_counted c.args.count c.args.statements.now,
      c.requires.at_bound.1,
      c.requires.at_bound.0,
    )

pub returns : goal.returns
unfolding payload_line
returns c =
    let part = bytes_at_start (encoded (goal.at.returns c).After-encode_payload) c.in-Ok.is in
    then_put (rw part at c.put_hex_bytes-next.ensures) c.put_bytes.ensures
