-- `put` of a digest meets its contract. Assumes nothing.
use mathlib.Core.Path.{◌≡◌}
use native.Mathlib.Omega.{arith}
use lib.ListN.{length}
use Rattle.bincode.specs.Bincode.{byte_string_bytes}
use Rattle.crypto.specs.Records.{digest_bytes}
use Rattle.put_records.proofs.Lengths.{length_digest}
use borrow.Author.Rules.{rules}
use Rattle.put_records.proofs.BlockDigestEncode.put.Goals as goal

pub put_counted-requires : goal.put_counted-requires
put_counted-requires c = omega (arith, length_digest c.args.self)

pub returns : goal.returns
unfolding digest_bytes byte_string_bytes
returns c =
    let n : length c.args.self.0 ≡ 32 = search rules in
    rw n c.put_counted.ensures
