-- Tables that a caller lends for rows: the rows that are counted stand first, one after the other.
use Rattle.std.specs.Prelude.{◌≡◌, Bool, List, [], ◌∷◌, ◌++◌, ℕ, ◌+◌, ◌-◌, ◌*◌, ◌≤◌, leb, length, Option, Some, None, Result, Ok, Err}
use Rattle.laws.specs.Bytes.{bytes_at, written, zeros}
use Rattle.laws.specs.Pick.{pick}
use Rattle.rows.specs.Rows.{rows_of, flat, key, compared, choose, place_of}

-- the n words of an answer table: its rows, and zeros behind them
unfoldable pub table_of : ℕ → List (List ℕ) → List ℕ
table_of n rows = flat rows ++ zeros (n - 8 * length rows)

-- each row has eight words
abbrev pub EightWords : List (List ℕ) → Type 0
EightWords [] = Unit
EightWords (r ∷ rows) = (length r ≡ 8) × EightWords rows

-- the words t are these rows, n of them, and zeros behind them
pub record Table (t : List ℕ) (n : ℕ) (rows : List (List ℕ)) : Type 0 where
  pub count : n ≡ length rows
  pub eights : EightWords rows
  pub fits : 8 * n ≤ length t
  pub words : t ≡ table_of (length t) rows

-- whether a table of n words has room for one row more than count
unfoldable pub has_room : ℕ → ℕ → Bool
has_room n count = leb (8 * count + 8) n

-- a row behind the last one, where there is room
unfoldable pub pushed : List ℕ → ℕ → List ℕ → List ℕ
pushed t count row = pick (has_room (length t) count) (written t (8 * count) row) t

-- the first n of count rows removed: the others move down, and zeros stand where they ended
unfoldable pub dropped : List ℕ → ℕ → ℕ → List ℕ
dropped t count n = written t 0 (bytes_at t (8 * n) (8 * (count - n)) ++ zeros (8 * n))

-- a row stored in the place of the row with its key, or put at the place of its key where there is room
unfoldable pub upserted_at : List ℕ → ℕ → List ℕ → Result ℕ ℕ → List ℕ
upserted_at t count row (Ok i) = written t (8 * i) row
upserted_at t count row (Err i) =
    pick (has_room (length t) count) (written t (8 * i) (row ++ bytes_at t (8 * i) (8 * (count - i)))) t

unfoldable pub upserted : List ℕ → ℕ → List ℕ → List ℕ
upserted t count row = upserted_at t count row (place_of (key row) (rows_of count t))

-- how many rows there are then, where there is room
unfoldable pub counted_at : List ℕ → ℕ → Result ℕ ℕ → Option ℕ
counted_at t count (Ok i) = Some count
counted_at t count (Err i) = pick (has_room (length t) count) (Some (count + 1)) None

unfoldable pub upsert_count : List ℕ → ℕ → List ℕ → Option ℕ
upsert_count t count row = counted_at t count (place_of (key row) (rows_of count t))

-- the same as rows: a row joins ascending rows at its place, or takes the place of the row with its key
unfoldable pub put_row : List ℕ → List (List ℕ) → List (List ℕ)
put_row row [] = row ∷ []
put_row row (x ∷ rest) = choose (compared (key row) (key x)) (row ∷ x ∷ rest) (row ∷ rest) (x ∷ put_row row rest)
