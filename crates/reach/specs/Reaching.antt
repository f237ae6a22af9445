-- For the proofs alone; no promise is stated with it. What the search comes to, a round at a time: which blocks of a round are reached,
-- by the includes of those reached in the round above.
use Rattle.std.specs.Prelude.{◌≡◌, Option, None, Some, Bool, false, List, [], ◌∷◌, ℕ, ◌+◌, ◌*◌, ◌≤◌, eqb, length, get_or, Result, Ok, Err}
use Rattle.refusal.specs.declared.Refusal.{Refusal}
use Rattle.refusal.specs.Refusals.{refusal_of}
use Rattle.laws.specs.Pick.{pick}
use Rattle.laws.specs.Bytes.{bytes_at}
use Rattle.types.specs.declared.BlockReference.{BlockReference}
use Rattle.query.specs.Query.{unloaded}
use Rattle.filters.specs.Segments.{between}
use Rattle.includes.specs.Includes.{Parses, includes_of}
use Rattle.reach.specs.declared.Searched.{Searched}
use Rattle.reach.specs.Blocks.{Indexed, Reads, failed, all}
use Rattle.includes.specs.References.{same, among, any}

-- ---- Working rows: whether a block is reached, and the place and the number of its bytes in the image

pub record BlockPlace (s : List ℕ) (r : List ℕ) : Type 0 where
  pub within : get_or r 1 0 + get_or r 2 0 ≤ length s
  pub parses : Parses (bytes_at s (get_or r 1 0) (get_or r 2 0))

abbrev pub AllBlockPlaces : List ℕ → List (List ℕ) → Type 0
AllBlockPlaces s [] = Unit {0}
AllBlockPlaces s (r ∷ rows) = BlockPlace s r × AllBlockPlaces s rows

-- the includes of each block that is reached
unfoldable pub reached_in : List ℕ → List (List ℕ) → List (List BlockReference)
reached_in s [] = []
reached_in s (r ∷ rows) =
    pick (eqb (get_or r 0 0) 0) (reached_in s rows) (includes_of (bytes_at s (get_or r 1 0) (get_or r 2 0)) ∷ reached_in s rows)

-- the includes of each parent: of the later block itself, or of those reached among n working rows from `from` on
unfoldable pub parents_of : List ℕ → List ℕ → Option ℕ → ℕ → List ℕ → List (List BlockReference)
parents_of s bytes None from work = includes_of bytes ∷ []
parents_of s bytes (Some n) from work = reached_in s (between from (from + n) work)

-- what a search among the parents asks for: their rows, from `from` on, are lent, and their bytes are blocks
abbrev pub Held : List ℕ → Option ℕ → ℕ → List ℕ → Type 0
Held s None from work = Unit {0}
Held s (Some n) from work = (8 * (from + n) ≤ length work) × AllBlockPlaces s (between from (from + n) work)

pub record Ready (s bytes : List ℕ) (p : Option ℕ) (from : ℕ) (work : List ℕ) : Type 0 where
  pub held : Held s p from work
  pub parses : Parses bytes

-- ---- A round

-- a block that a parent includes
unfoldable pub is_reached : List (List BlockReference) → BlockReference → Bool
is_reached parents x = any (among x) parents

-- the parents of the round below
unfoldable pub next_parents : List (List BlockReference) → List Indexed → List (List BlockReference)
next_parents parents [] = []
next_parents parents (b ∷ blocks) =
    pick (is_reached parents b.reference) (b.includes ∷ next_parents parents blocks) (next_parents parents blocks)

-- whether the earlier block is reached
unfoldable pub meets : BlockReference → List (List BlockReference) → List Indexed → Bool
meets earlier parents blocks = any (λ (b : Indexed). pick (is_reached parents b.reference) (same b.reference earlier) false) blocks

-- the working rows of blocks that were read
abbrev pub Marked : List ℕ → List (List BlockReference) → List (List ℕ) → Reads → Type 0
Marked s parents rows (failed n) = Unit {0}
Marked s parents rows (all blocks) = AllBlockPlaces s rows × (reached_in s rows ≡ next_parents parents blocks)

-- the answer of a search of these rows, by a test of their blocks
unfoldable pub searched_of : (List Indexed → Bool) → List (List ℕ) → Reads → Result Searched Refusal
searched_of test rows (failed n) = Err (refusal_of n)
searched_of test rows (all blocks) = Ok (record { unloaded = unloaded rows; found = test blocks })
