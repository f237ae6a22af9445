-- The call `linked`. Document 01, "Lookups": "it looks up every block of the rounds from just under the later's down to the earlier's.
-- Before any read it checks 9 for the later block, then 15 for its working rows, as many as the index has; these end zero." The order of
-- checks before that is a query's: 1, 2, 18. That the working rows end zero stands in the contract itself.
use Rattle.std.specs.Prelude.{List, [], ◌++◌, ℕ, zero, suc, leb, length, Result, Ok}
use Rattle.laws.specs.Pick.{pick}
use Rattle.laws.specs.Parse.{answer}
use Rattle.refusal.specs.declared.Refusal.{Refusal}
use Rattle.refusal.specs.Refusals.{as_refused}
use Rattle.types.specs.declared.BlockReference.{BlockReference}
use Rattle.types.specs.Records.{BlockValue, block}
use Rattle.wal_position.specs.Checks.{unless}
use Rattle.store.specs.declared.BlockStore.{BlockStore}
use Rattle.store.specs.Store.{indexed, call_check}
use Rattle.filters.specs.Filters.{by_round}
use Rattle.query.specs.Query.{unloaded, counted}
use Rattle.linked.specs.declared.LinkedAnswer.{LinkedAnswer}
use Rattle.reach.specs.Blocks.{Reads, failed, all, read_blocks}
use Rattle.linked.specs.Chains.{is_ancestor}

-- the rows of the rounds from just under `high` down to `low`, the highest round first
unfoldable pub down_to : ℕ → ℕ → List (List ℕ) → List (List ℕ)
down_to low zero rows = []
down_to low (suc n) rows = pick (leb low n) (by_round n rows ++ down_to low n rows) []

-- ---- The answer

-- "A refused query counts no load"
unfoldable pub linked_of : BlockStore → List (List ℕ) → BlockValue → BlockReference → Reads → Result LinkedAnswer Refusal
linked_of store chosen later earlier (failed n) = as_refused n
linked_of store chosen later earlier (all blocks) =
    Ok (record { linked = is_ancestor blocks later earlier; store = counted store (unloaded chosen) })

-- the rows that the call looks up
unfoldable pub looked_up : BlockValue → BlockReference → List (List ℕ) → List (List ℕ)
looked_up later earlier rows = down_to earlier.round later.reference.round rows

-- the later block's bytes, the earlier's reference, and how many working rows are lent
unfoldable pub linked_answer : ℕ → List ℕ → ℕ → BlockStore → List ℕ → List ℕ → BlockReference → ℕ → Result LinkedAnswer Refusal
linked_answer k s used store index bytes earlier lent =
    unless (call_check k used (length s) store index) as_refused
    (answer (as_refused 9)
    (λ (later : BlockValue) e.
    pick (leb store.rows lent)
    (linked_of store (looked_up later earlier (indexed store index)) later earlier
    (read_blocks k s used (looked_up later earlier (indexed store index))))
    (as_refused 15))
    (block bytes 0))
