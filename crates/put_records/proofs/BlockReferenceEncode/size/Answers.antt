-- `size` of a reference meets its contract. Assumes nothing.
use mathlib.Core.Path.{sym}
use borrow.Author.Rules.{rules}
use Rattle.put_records.proofs.Lengths.{reference_size}
use Rattle.put_records.proofs.BlockReferenceEncode.size.Goals as goal

pub returns-clause-counted : goal.returns-clause-counted
returns-clause-counted c = sym (reference_size c.args.self (search rules))
