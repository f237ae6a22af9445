-- `size` of a range meets its contract. Assumes nothing.
use mathlib.Core.Path.{sym}
use borrow.Author.Rules.{rules}
use Rattle.put_records.proofs.Lengths.{range_size}
use Rattle.put_records.proofs.TransactionLocatorRangeEncode.size.Goals as goal

pub returns-clause-counted : goal.returns-clause-counted
returns-clause-counted c = sym (range_size c.args.self (search rules))
