-- `size` of a bool meets its contract. Assumes nothing.
use mathlib.Core.Path.{sym}
use Rattle.put_records.proofs.Lengths.{length_bool}
use Rattle.put_records.proofs.BoolEncode.size.Goals as goal

pub returns-clause-counted : goal.returns-clause-counted
returns-clause-counted c = sym (length_bool c.args.self)
