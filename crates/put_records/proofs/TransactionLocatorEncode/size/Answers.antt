-- `size` of a locator meets its contract. Assumes nothing.
use mathlib.Core.Path.{sym}
use borrow.Author.Rules.{rules}
use Rattle.put_records.proofs.Lengths.{locator_size}
use Rattle.put_records.proofs.TransactionLocatorEncode.size.Goals as goal

pub returns-clause-counted : goal.returns-clause-counted
returns-clause-counted c = sym (locator_size c.args.self (search rules))
