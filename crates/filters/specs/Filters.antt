-- Which rows of the index a lookup asks for. Document 01, "Lookups".
use Rattle.std.specs.Prelude.{Bool, true, false, List, [], ◌∷◌, ℕ, ltb, eqb, take, get_or}
use Rattle.laws.specs.Pick.{pick}
use Rattle.types.specs.declared.BlockReference.{BlockReference}
use Rattle.rows.specs.Rows.{key, compared, choose}
use Rattle.index.specs.Keys.{key_words}

unfoldable pub round_of : List ℕ → ℕ
round_of r = get_or r 0 0

unfoldable pub author_of : List ℕ → ℕ
author_of r = get_or r 1 0

unfoldable pub keep : (List ℕ → Bool) → List (List ℕ) → List (List ℕ)
keep f [] = []
keep f (r ∷ rows) = pick (f r) (r ∷ keep f rows) (keep f rows)

-- "By reference"
unfoldable pub by_reference : BlockReference → List (List ℕ) → List (List ℕ)
by_reference x rows = keep (λ r. choose (compared (key r) (key_words x)) false true false) rows

-- "by round"
unfoldable pub by_round : ℕ → List (List ℕ) → List (List ℕ)
by_round round rows = keep (λ r. eqb (round_of r) round) rows

-- "by round and author"
unfoldable pub by_author_round : ℕ → ℕ → List (List ℕ) → List (List ℕ)
by_author_round author round rows = keep (λ r. pick (eqb (author_of r) author) (eqb (round_of r) round) false) rows

-- "own blocks after a round (limit counts blocks)"
unfoldable pub own_after : ℕ → ℕ → ℕ → List (List ℕ) → List (List ℕ)
own_after own after limit rows = take limit (keep (λ r. pick (eqb (author_of r) own) (ltb after (round_of r)) false) rows)

-- the indexed rounds above a round, each once
unfoldable pub rounds_after : ℕ → List (List ℕ) → List ℕ
rounds_after after [] = []
rounds_after after (r ∷ rows) = pick (ltb after (round_of r)) (once (round_of r) (rounds_after after rows)) (rounds_after after rows)
  where
    once : ℕ → List ℕ → List ℕ
    once x [] = x ∷ []
    once x (y ∷ ys) = pick (eqb x y) (y ∷ ys) (x ∷ y ∷ ys)

unfoldable pub among : ℕ → List ℕ → Bool
among x [] = false
among x (y ∷ ys) = pick (eqb x y) true (among x ys)

-- "others' blocks after a round (limit counts indexed rounds, with or without that author)"
unfoldable pub others_after : ℕ → ℕ → ℕ → List (List ℕ) → List (List ℕ)
others_after author after limit rows =
    keep (λ r. pick (eqb (author_of r) author) (among (round_of r) (take limit (rounds_after after rows))) false) rows
