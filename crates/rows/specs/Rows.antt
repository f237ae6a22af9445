-- A table of words as rows of eight: a key of six words, then two words of value. Rows are sorted by their keys.
use Rattle.std.specs.Prelude.{◌≡◌, Bool, true, false, List, [], ◌∷◌, ◌++◌, ℕ, zero, suc, ◌*◌, ltb, take, drop, get_or, Result, Ok, Err}
use Rattle.laws.specs.Bytes.{bytes_at}
use Rattle.laws.specs.Pick.{pick}
use Rattle.std.specs.declared.cmp.Ordering.{Ordering}
use Rattle.std.specs.declared.cmp.Ordering.TheVariants.{Less, Equal, Greater}

-- the first n rows of the words
unfoldable pub rows_of : ℕ → List ℕ → List (List ℕ)
rows_of zero w = []
rows_of (suc n) w = take 8 w ∷ rows_of n (drop 8 w)

-- row i of the words
unfoldable pub row_at : List ℕ → ℕ → List ℕ
row_at w i = bytes_at w (8 * i) 8

-- the words of the rows, one row after the other
unfoldable pub flat : List (List ℕ) → List ℕ
flat [] = []
flat (r ∷ rows) = r ++ flat rows

unfoldable pub key : List ℕ → List ℕ
key row = take 6 row

-- the first, the second or the third, as an order is Less, Equal or Greater
unfoldable pub choose {ℓ} : {A : Type ℓ} → Ordering → A → A → A → A
choose Less a b c = a
choose Equal a b c = b
choose Greater a b c = c

-- where a stands to b in the order of dictionaries: the first words that differ decide, and a list that ends comes first
unfoldable pub compared : List ℕ → List ℕ → Ordering
compared [] [] = Equal
compared [] (y ∷ b) = Less
compared (x ∷ a) [] = Greater
compared (x ∷ a) (y ∷ b) = pick (ltb x y) Less (pick (ltb y x) Greater (compared a b))

-- the first of the rows, if there is one, has a key above k
abbrev pub Leads : List ℕ → List (List ℕ) → Type 0
Leads k [] = Unit
Leads k (r ∷ rows) = compared k (key r) ≡ Less

-- each key is strictly below the next
abbrev pub Ascending : List (List ℕ) → Type 0
Ascending [] = Unit
Ascending (r ∷ rows) = Leads (key r) rows × Ascending rows

-- the same as tests
unfoldable pub leads : List ℕ → List (List ℕ) → Bool
leads k [] = true
leads k (r ∷ rows) = choose (compared k (key r)) true false false

unfoldable pub ascendingb : List (List ℕ) → Bool
ascendingb [] = true
ascendingb (r ∷ rows) = pick (leads (key r) rows) (ascendingb rows) false

-- how many of the rows have a key strictly below k
unfoldable pub below : List ℕ → List (List ℕ) → ℕ
below k [] = 0
below k (r ∷ rows) = choose (compared (key r) k) (suc (below k rows)) (below k rows) (below k rows)

-- whether one of the rows has the key k
unfoldable pub has_key : List ℕ → List (List ℕ) → Bool
has_key k [] = false
has_key k (r ∷ rows) = choose (compared (key r) k) (has_key k rows) true (has_key k rows)

-- where the key k is among the rows, or is to be put
unfoldable pub place_of : List ℕ → List (List ℕ) → Result ℕ ℕ
place_of k rows = pick (has_key k rows) (Ok (below k rows)) (Err (below k rows))

-- how many rows, from the first on, begin with a word below p
unfoldable pub leading_below : ℕ → List (List ℕ) → ℕ
leading_below p [] = 0
leading_below p (r ∷ rows) = pick (ltb (get_or r 0 0) p) (suc (leading_below p rows)) 0
