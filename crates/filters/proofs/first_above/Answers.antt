-- `filters::first_above` meets its contract: no row up to the round stands behind one above it. Assumes nothing.
use borrow.Author.Tests.{tests}
use Rattle.std.proofs.Common.{◌≡◌, rules}
use Rattle.std.proofs.lemmas.Fn.{always_returns_same}
use Rattle.filters.proofs.Segments.{early, point_found}
use Rattle.filters.proofs.first_above.Goals as goal

pub returns : goal.returns
returns c =
    point_found c.args.round c.args.rows.now c.partition_point.result c.requires c.partition_point.ensures.bound
    (c.partition_point.ensures.partitioned (early c.args.round) (always_returns_same _ (λ x r. r ≡ early c.args.round x.0.now) _ (λ x r q k. search (rules, tests))))
