-- `filters::lower_bound` meets its contract: each answer of the search is that number. Assumes nothing.
use Rattle.std.proofs.Common.{rules}
use Rattle.filters.proofs.Segments.{place_below}
use Rattle.filters.proofs.lower_bound.Goals as goal

pub returns : goal.returns
returns c = place_below c.args.k c.args.rows.now c.find.result c.find.ensures (search rules)
