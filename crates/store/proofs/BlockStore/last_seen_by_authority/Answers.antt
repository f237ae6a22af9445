-- `store::BlockStore::last_seen_by_authority` meets its contract: 0 past the array's end. Assumes nothing.
use mathlib.Core.Path.{ap, ◌∙◌}
use native.Mathlib.Omega.{arith}
use Rattle.std.specs.Option.{unwrap_or}
use Rattle.store.specs.Store.{last_seen_of}
use Rattle.store.proofs.BlockStore.last_seen_by_authority.Goals as goal

pub returns : goal.returns
unfolding last_seen_of
returns c =
    c.unwrap_or.ensures ∙ ap (λ o. unwrap_or o 0) c.copied.ensures ∙ c.get.ensures.lookup.4 (omega arith) 0
