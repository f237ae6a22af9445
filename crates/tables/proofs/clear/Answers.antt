-- `tables::clear` meets its contract. Assumes nothing.
use Rattle.std.proofs.Common.{rules}
use Rattle.laws.specs.Bytes.{zeros}
use Rattle.tables.proofs.clear.Goals as goal

pub returns : goal.returns
unfolding zeros
returns c = c.fill.ensures.after (λ y e. search rules)
