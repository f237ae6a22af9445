-- Text set in columns. Assumes nothing.
use Rattle.std.specs.Prelude.{ℕ, ◌-◌, List, [], ◌∷◌, ◌++◌, length, replicate}
use Rattle.laws.specs.Ascii.{blank}

unfoldable pub blanks : ℕ → List ℕ
blanks n = replicate n blank

-- text set to the right in w columns, and to the left. Text that is wider stands whole, and takes more columns.
unfoldable pub right : ℕ → List ℕ → List ℕ
right w v = blanks (w - length v) ++ v

unfoldable pub left : ℕ → List ℕ → List ℕ
left w v = v ++ blanks (w - length v)

-- columns with one blank between each and the next
unfoldable pub spaced : List (List ℕ) → List ℕ
spaced [] = []
spaced (c ∷ []) = c
spaced (c ∷ d ∷ rest) = c ++ (blank ∷ spaced (d ∷ rest))
