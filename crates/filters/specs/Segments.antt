-- For the proofs alone; no promise is stated with it. Where the rows that a lookup asks for stand in the index: between two places, of an
-- author or of all, up to a limit.
use Rattle.std.specs.Prelude.{Bool, true, Option, Some, None, List, [], ◌∷◌, ℕ, zero, suc, leb, eqb, take, drop, get_or}
use Rattle.laws.specs.Pick.{pick}
use Rattle.rows.specs.Rows.{rows_of}
use Rattle.filters.specs.Filters.{keep, author_of}

-- whether x is the author that is asked for, or all are
abbrev pub is_author : Option ℕ → ℕ → Bool
is_author None x = true
is_author (Some author) x = eqb x author

-- the rows from one place to another
unfoldable pub between : ℕ → ℕ → List ℕ → List (List ℕ)
between from to index = drop from (rows_of to index)

-- those of an author or of all, up to a limit
unfoldable pub chosen : Option ℕ → ℕ → List (List ℕ) → List (List ℕ)
chosen author limit rows = take limit (keep (λ r. is_author author (author_of r)) rows)

-- how many rows are up to a round
unfoldable pub up_to : ℕ → List (List ℕ) → ℕ
up_to round [] = 0
up_to round (r ∷ rows) = pick (leb (get_or r 0 0) round) (suc (up_to round rows)) (up_to round rows)

-- how many of the rows, from the first on, are of a round that has begun or of the `limit` rounds behind it
unfoldable pub rounds_within : ℕ → ℕ → List (List ℕ) → ℕ
rounds_within limit round [] = 0
rounds_within zero round (r ∷ rows) = pick (eqb (get_or r 0 0) round) (suc (rounds_within zero round rows)) 0
rounds_within (suc limit) round (r ∷ rows) =
    pick (eqb (get_or r 0 0) round) (suc (rounds_within (suc limit) round rows)) (suc (rounds_within limit (get_or r 0 0) rows))

-- how many of the rows, from the first on, are of the first `limit` rounds
unfoldable pub rounds_long : ℕ → List (List ℕ) → ℕ
rounds_long limit [] = 0
rounds_long zero (r ∷ rows) = 0
rounds_long (suc limit) (r ∷ rows) = suc (rounds_within limit (get_or r 0 0) rows)
