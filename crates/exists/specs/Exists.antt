-- Questions that read no block. Document 01, "Lookups".
use Rattle.std.specs.Prelude.{Bool, true, false, List, [], ◌∷◌, ℕ, eqb, length, get_or, Result, Ok}
use Rattle.laws.specs.Pick.{pick}
use Rattle.refusal.specs.declared.Refusal.{Refusal}
use Rattle.refusal.specs.Refusals.{as_refused}
use Rattle.wal_position.specs.Checks.{unless}
use Rattle.types.specs.declared.BlockReference.{BlockReference}
use Rattle.rows.specs.Rows.{has_key}
use Rattle.index.specs.Keys.{key_words, exists_at}
use Rattle.store.specs.declared.BlockStore.{BlockStore}
use Rattle.store.specs.Store.{indexed, call_check}

-- an answer, unless the checks gave the number n
abbrev pub answered : ℕ → Bool → Result Bool Refusal
answered n b = unless n as_refused (Ok b)

-- whether a round has a block
unfoldable pub round_there : ℕ → List (List ℕ) → Bool
round_there round [] = false
round_there round (r ∷ rows) = pick (eqb (get_or r 0 0) round) true (round_there round rows)

-- "all of some authors present (an absent round gives no, even for an empty list; no block is read)"
unfoldable pub all_exist : List ℕ → ℕ → List (List ℕ) → Bool
all_exist [] round rows = true
all_exist (a ∷ authors) round rows = pick (exists_at a round rows) (all_exist authors round rows) false

unfoldable pub all_there : List ℕ → ℕ → List (List ℕ) → Bool
all_there authors round rows = pick (round_there round rows) (all_exist authors round rows) false

-- the calls: k, the image and used, the store and its index, and the arguments
abbrev pub block_exists : ℕ → List ℕ → ℕ → BlockStore → List ℕ → BlockReference → Result Bool Refusal
block_exists k image used store index reference =
    answered (call_check k used (length image) store index) (has_key (key_words reference) (indexed store index))

abbrev pub block_exists_at : ℕ → List ℕ → ℕ → BlockStore → List ℕ → ℕ → ℕ → Result Bool Refusal
block_exists_at k image used store index authority round =
    answered (call_check k used (length image) store index) (exists_at authority round (indexed store index))

abbrev pub all_blocks_exist_at : ℕ → List ℕ → ℕ → BlockStore → List ℕ → List ℕ → ℕ → Result Bool Refusal
all_blocks_exist_at k image used store index authors round =
    answered (call_check k used (length image) store index) (all_there authors round (indexed store index))
