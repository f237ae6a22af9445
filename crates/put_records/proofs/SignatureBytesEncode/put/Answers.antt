-- `put` of a signature meets its contract. Assumes nothing.
use mathlib.Core.Path.{◌≡◌}
use native.Mathlib.Omega.{arith}
use lib.ListN.{length}
use Rattle.bincode.specs.Bincode.{byte_string_bytes}
use Rattle.crypto.specs.Records.{signature_bytes}
use Rattle.put_records.proofs.Lengths.{length_signature}
use borrow.Author.Rules.{rules}
use Rattle.put_records.proofs.SignatureBytesEncode.put.Goals as goal

pub put_counted-requires : goal.put_counted-requires
put_counted-requires c = omega (arith, length_signature c.args.self)

pub returns : goal.returns
unfolding signature_bytes byte_string_bytes
returns c =
    let n : length c.args.self.0 ≡ 64 = search rules in
    rw n c.put_counted.ensures
