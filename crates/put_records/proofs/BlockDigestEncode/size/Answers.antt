-- `size` of a digest meets its contract. Assumes nothing.
use mathlib.Core.Path.{◌≡◌}
use native.Mathlib.Omega.{arith}
use lib.ListN.{length}
use borrow.Author.Rules.{rules}
use Rattle.put_records.proofs.Lengths.{length_digest}
use Rattle.put_records.proofs.BlockDigestEncode.size.Goals as goal

pub returns-clause-counted : goal.returns-clause-counted
returns-clause-counted c =
    let n : length c.args.self.0 ≡ 32 = search rules in
    omega (arith, length_digest c.args.self)
