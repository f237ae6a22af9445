-- `size` of a signature meets its contract. Assumes nothing.
use mathlib.Core.Path.{◌≡◌}
use native.Mathlib.Omega.{arith}
use lib.ListN.{length}
use borrow.Author.Rules.{rules}
use Rattle.put_records.proofs.Lengths.{length_signature}
use Rattle.put_records.proofs.SignatureBytesEncode.size.Goals as goal

pub returns-clause-counted : goal.returns-clause-counted
returns-clause-counted c =
    let n : length c.args.self.0 ≡ 64 = search rules in
    omega (arith, length_signature c.args.self)
