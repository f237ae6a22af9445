-- Words read as rows: what a write to the words is to the rows. Assumes nothing.
use mathlib.Core.Path.{◌≡◌, refl, sym, ap, ◌∙◌}
use mathlib.Core.List.{List, [], ◌∷◌, ◌++◌, append_assoc, append-nil}
use Prim.Native.Nat.{ℕ, zero, suc, ◌+◌, ◌-◌, ◌*◌, ◌≤◌, ◌<◌}
use native.Mathlib.Nat.{zero-add, suc-add, add-zero}
use native.Mathlib.Omega.{arith}
use lib.ListN.{length, take, drop, set, get_or, length-append}
use lib.Seq.{take-add, take-take, take-nil, drop-drop, take_at, drop_at, take_all, get_or_at, get_or-take, get_or-drop, set_split, length-take-le}
use Rattle.laws.specs.Bytes.{bytes_at, written, zeros}
use Rattle.laws.proofs.Written.{length_bytes_at, length_zeros, drop_written}
use Rattle.rows.proofs.Words.{bytes_at_words}
use Rattle.rows.specs.Rows.{rows_of, row_at, flat, key}

pub length_rows_of : (n : ℕ) (w : List ℕ) → length (rows_of n w) ≡ n
unfolding rows_of
length_rows_of zero w = refl
length_rows_of (suc n) w = ap suc (length_rows_of n (drop 8 w))

pub length_row_at : (w : List ℕ) (i : ℕ) → 8 * i + 8 ≤ length w → length (row_at w i) ≡ 8
unfolding row_at
length_row_at w i h = length_bytes_at w (8 * i) 8 h

-- a key, word by word
pub key_of_row : (row : List ℕ) → length row ≡ 8
    → get_or row 0 0 ∷ get_or row 1 0 ∷ get_or row 2 0 ∷ get_or row 3 0 ∷ get_or row 4 0 ∷ get_or row 5 0 ∷ [] ≡ key row
unfolding key bytes_at
key_of_row row h = sym (bytes_at_words row 0 6 (omega arith))

pub first_row_at : (w : List ℕ) (i : ℕ) → get_or (row_at w i) 0 0 ≡ get_or w (8 * i) 0
unfolding row_at bytes_at
first_row_at w i =
    get_or-take 8 (drop (8 * i) w) 0 0 (omega arith)
    ∙ get_or-drop (8 * i) w 0 0
    ∙ ap (λ (p : ℕ). get_or w p 0) (add-zero (8 * i))

-- rows in two parts
pub rows_of_add : (m n : ℕ) (w : List ℕ) → rows_of (m + n) w ≡ rows_of m w ++ rows_of n (drop (8 * m) w)
unfolding rows_of
rows_of_add zero n w = ap (λ (k : ℕ). rows_of k w) (zero-add n)
rows_of_add (suc m) n w =
    let e : 8 + 8 * m ≡ 8 * suc m = omega arith in
    ap (λ (k : ℕ). rows_of k w) (suc-add m n)
    ∙ ap (λ (l : List (List ℕ)). take 8 w ∷ l) (rows_of_add m n (drop 8 w))
    ∙ ap (λ (l : List ℕ). take 8 w ∷ rows_of m (drop 8 w) ++ rows_of n l) (drop-drop (8 * m) 8 w ∙ ap (λ (k : ℕ). drop k w) e)

-- rows are made of their own words alone
pub drop_take : (n m : ℕ) (l : List ℕ) → drop n (take (n + m) l) ≡ take m (drop n l)
drop_take zero m l = ap (λ (k : ℕ). take k l) (zero-add m)
drop_take (suc n) m [] = ap (drop (suc n)) (take-nil (suc n + m)) ∙ sym (take-nil m)
drop_take (suc n) m (x ∷ l) = ap (λ (k : ℕ). drop (suc n) (take k (x ∷ l))) (suc-add n m) ∙ drop_take n m l

pub rows_of_take : (n : ℕ) (w : List ℕ) → rows_of n (take (8 * n) w) ≡ rows_of n w
unfolding rows_of
rows_of_take zero w = refl
rows_of_take (suc n) w =
    let e : 8 * suc n ≡ 8 + 8 * n = omega arith in
    let rest : drop 8 (take (8 * suc n) w) ≡ take (8 * n) (drop 8 w) =
    ap (λ (k : ℕ). drop 8 (take k w)) e ∙ drop_take 8 (8 * n) w in
    ap (λ (r : List ℕ). r ∷ rows_of n (drop 8 (take (8 * suc n) w))) (take-take 8 (8 * suc n) w (omega arith))
    ∙ ap (λ (l : List ℕ). take 8 w ∷ rows_of n l) rest
    ∙ ap (λ (l : List (List ℕ)). take 8 w ∷ l) (rows_of_take n (drop 8 w))

pub rows_of_same : (n : ℕ) (v w : List ℕ) → take (8 * n) v ≡ take (8 * n) w → rows_of n v ≡ rows_of n w
rows_of_same n v w e = sym (rows_of_take n v) ∙ ap (rows_of n) e ∙ rows_of_take n w

pub rows_of_front : (n : ℕ) (a b : List ℕ) → length a ≡ 8 * n → rows_of n (a ++ b) ≡ rows_of n a
rows_of_front n a b h = rows_of_same n (a ++ b) a (take_at a b (8 * n) h ∙ sym (take_all (8 * n) a (omega arith)))

pub rows_of_cons : (n : ℕ) (row w : List ℕ) → length row ≡ 8 → rows_of (suc n) (row ++ w) ≡ row ∷ rows_of n w
unfolding rows_of
rows_of_cons n row w h = rw (take_at row w 8 h, drop_at row w 8 h)

-- the rows' words are the words
pub flat_rows_of : (n : ℕ) (w : List ℕ) → flat (rows_of n w) ≡ take (8 * n) w
unfolding rows_of flat
flat_rows_of zero w = refl
flat_rows_of (suc n) w =
    let e : 8 + 8 * n ≡ 8 * suc n = omega arith in
    ap (λ (l : List ℕ). take 8 w ++ l) (flat_rows_of n (drop 8 w))
    ∙ sym (take-add 8 (8 * n) w)
    ∙ ap (λ (k : ℕ). take k w) e

-- the rows from index i up to, not with, index n
unfoldable pub rows_from : List ℕ → ℕ → ℕ → List (List ℕ)
rows_from w i n = rows_of (n - i) (drop (8 * i) w)

pub rows_from_zero : (w : List ℕ) (n : ℕ) → rows_from w 0 n ≡ rows_of n w
unfolding rows_from
rows_from_zero w n = let e : n - 0 ≡ n = omega arith in rw e

pub rows_from_none : (w : List ℕ) (i n : ℕ) → n ≤ i → rows_from w i n ≡ []
unfolding rows_from rows_of
rows_from_none w i n h = let e : n - i ≡ 0 = omega arith in rw e

pub rows_from_cons : (w : List ℕ) (i n : ℕ) → i < n → rows_from w i n ≡ row_at w i ∷ rows_from w (i + 1) n
unfolding rows_from rows_of row_at bytes_at
rows_from_cons w i n h =
    let e : n - i ≡ suc (n - (i + 1)) = omega arith in
    let d : 8 * i + 8 ≡ 8 * (i + 1) = omega arith in
    ap (λ (k : ℕ). rows_of k (drop (8 * i) w)) e
    ∙ ap (λ (l : List ℕ). take 8 (drop (8 * i) w) ∷ rows_of (n - (i + 1)) l) (drop-drop 8 (8 * i) w ∙ ap (λ (k : ℕ). drop k w) d)

pub rows_from_add : (w : List ℕ) (i m n : ℕ) → i ≤ m → m ≤ n → rows_from w i n ≡ rows_from w i m ++ rows_from w m n
unfolding rows_from
rows_from_add w i m n h k =
    let e : n - i ≡ (m - i) + (n - m) = omega arith in
    let d : 8 * i + 8 * (m - i) ≡ 8 * m = omega arith in
    ap (λ (j : ℕ). rows_of j (drop (8 * i) w)) e
    ∙ rows_of_add (m - i) (n - m) (drop (8 * i) w)
    ∙ ap (λ (l : List ℕ). rows_of (m - i) (drop (8 * i) w) ++ rows_of (n - m) l) (drop-drop (8 * (m - i)) (8 * i) w ∙ ap (λ (j : ℕ). drop j w) d)

-- the rows around the one at index m
pub rows_from_split : (w : List ℕ) (i m n : ℕ) → i ≤ m → m < n → rows_from w i n ≡ rows_from w i m ++ row_at w m ∷ rows_from w (m + 1) n
rows_from_split w i m n h k =
    rows_from_add w i m n h (omega arith) ∙ ap (λ (l : List (List ℕ)). rows_from w i m ++ l) (rows_from_cons w m n k)

rows_of_split : (w : List ℕ) (i n : ℕ) → i ≤ n → rows_of n w ≡ rows_of i w ++ rows_from w i n
rows_of_split w i n h =
    sym (rows_from_zero w n)
    ∙ rows_from_add w 0 i n (omega arith) h
    ∙ ap (λ (l : List (List ℕ)). l ++ rows_from w i n) (rows_from_zero w i)

pub take_rows_of : (w : List ℕ) (i n : ℕ) → i ≤ n → take i (rows_of n w) ≡ rows_of i w
take_rows_of w i n h =
    ap (take i) (rows_of_split w i n h) ∙ take_at (rows_of i w) (rows_from w i n) i (length_rows_of i w)

pub drop_rows_of : (w : List ℕ) (i n : ℕ) → i ≤ n → drop i (rows_of n w) ≡ rows_from w i n
drop_rows_of w i n h =
    ap (drop i) (rows_of_split w i n h) ∙ drop_at (rows_of i w) (rows_from w i n) i (length_rows_of i w)

pub get_or_rows_of : (w : List ℕ) (i n : ℕ) → i < n → get_or (rows_of n w) i [] ≡ row_at w i
get_or_rows_of w i n h =
    ap (λ (l : List (List ℕ)). get_or l i []) (rows_of_split w i n (omega arith) ∙ ap (λ (l : List (List ℕ)). rows_of i w ++ l) (rows_from_cons w i n h))
    ∙ get_or_at (rows_of i w) (row_at w i) (rows_from w (i + 1) n) [] i (length_rows_of i w)

-- The rows of a table that was written to from row i on: the first i as they were, then those of what was written and what lies behind it.
rows_of_written : (w : List ℕ) (i m : ℕ) (v : List ℕ) → 8 * i ≤ length w
    → rows_of (i + m) (written w (8 * i) v) ≡ rows_of i w ++ rows_of m (v ++ drop (8 * i + length v) w)
unfolding written
rows_of_written w i m v h =
    let l : length (take (8 * i) w) ≡ 8 * i = length-take-le (8 * i) w h in
    let behind : List ℕ = v ++ drop (8 * i + length v) w in
    ap (rows_of (i + m)) (append_assoc (take (8 * i) w) v (drop (8 * i + length v) w))
    ∙ rows_of_add i m (take (8 * i) w ++ behind)
    ∙ ap (λ (r : List (List ℕ)). r ++ rows_of m (drop (8 * i) (take (8 * i) w ++ behind))) (rows_of_front i (take (8 * i) w) behind l ∙ rows_of_take i w)
    ∙ ap (λ (r : List ℕ). rows_of i w ++ rows_of m r) (drop_at (take (8 * i) w) behind (8 * i) l)

-- the same where a row is written first
rows_of_written_row : (w : List ℕ) (i m : ℕ) (row v : List ℕ) → 8 * i ≤ length w → length row ≡ 8
    → rows_of (i + suc m) (written w (8 * i) (row ++ v)) ≡ rows_of i w ++ row ∷ rows_of m (v ++ drop (8 * i + length (row ++ v)) w)
rows_of_written_row w i m row v h e =
    rows_of_written w i (suc m) (row ++ v) h
    ∙ ap (λ (l : List ℕ). rows_of i w ++ rows_of (suc m) l) (append_assoc row v (drop (8 * i + length (row ++ v)) w))
    ∙ ap (λ (l : List (List ℕ)). rows_of i w ++ l) (rows_of_cons m row (v ++ drop (8 * i + length (row ++ v)) w) e)

module _ (w : List ℕ) (n i : ℕ) (row : List ℕ) (eight : length row ≡ 8) where
  -- a row put in the place of another
  pub rows_of_put : i < n → 8 * n ≤ length w → rows_of n (written w (8 * i) row) ≡ set (rows_of n w) i row
  unfolding rows_from
  rows_of_put h fits =
      let m : ℕ = n - (i + 1) in
      let e : n ≡ i + suc m = omega arith in
      let d : 8 * i + length (row ++ []) ≡ 8 * (i + 1) = omega (arith, length-append row []) in
      let b : suc i ≡ i + 1 = omega arith in
      ap (λ (k : ℕ). rows_of k (written w (8 * i) row)) e
      ∙ ap (λ (v : List ℕ). rows_of (i + suc m) (written w (8 * i) v)) (sym (append-nil row))
      ∙ rows_of_written_row w i m row [] (omega arith) eight
      ∙ ap (λ (k : ℕ). rows_of i w ++ row ∷ rows_of m (drop k w)) d
      ∙ sym (
      set_split (rows_of n w) i row (omega (arith, length_rows_of n w))
      ∙ ap (λ (l : List (List ℕ)). l ++ row ∷ drop (suc i) (rows_of n w)) (take_rows_of w i n (omega arith))
      ∙ ap (λ (k : ℕ). rows_of i w ++ row ∷ drop k (rows_of n w)) b
      ∙ ap (λ (l : List (List ℕ)). rows_of i w ++ row ∷ l) (drop_rows_of w (i + 1) n (omega arith))
      )

-- a row put behind the last one
pub rows_of_pushed : (w : List ℕ) (n : ℕ) (row : List ℕ) → 8 * n + 8 ≤ length w → length row ≡ 8
    → rows_of (n + 1) (written w (8 * n) row) ≡ rows_of n w ++ (row ∷ [])
unfolding rows_of
rows_of_pushed w n row h eight =
    ap (λ (v : List ℕ). rows_of (n + 1) (written w (8 * n) v)) (sym (append-nil row))
    ∙ rows_of_written_row w n 0 row [] (omega arith) eight

module _ (w : List ℕ) (n i : ℕ) (row : List ℕ) (within : i ≤ n) (fits : 8 * n + 8 ≤ length w) (eight : length row ≡ 8) where
  -- what `insert_row` writes
  pub rows_of_inserted : rows_of (n + 1) (written w (8 * i) (row ++ bytes_at w (8 * i) (8 * (n - i))))
      ≡ take i (rows_of n w) ++ row ∷ drop i (rows_of n w)
  unfolding rows_from bytes_at
  rows_of_inserted =
      let m : ℕ = n - i in
      let b : List ℕ = bytes_at w (8 * i) (8 * m) in
      let behind : List ℕ = drop (8 * i + length (row ++ b)) w in
      let e : n + 1 ≡ i + suc m = omega arith in
      ap (λ (k : ℕ). rows_of k (written w (8 * i) (row ++ b))) e
      ∙ rows_of_written_row w i m row b (omega arith) eight
      ∙ ap (λ (l : List (List ℕ)). rows_of i w ++ row ∷ l) (rows_of_front m b behind (length_bytes_at w (8 * i) (8 * m) (omega arith)) ∙ rows_of_take m (drop (8 * i) w))
      ∙ ap (λ (l : List (List ℕ)). l ++ row ∷ rows_from w i n) (sym (take_rows_of w i n within))
      ∙ ap (λ (l : List (List ℕ)). take i (rows_of n w) ++ row ∷ l) (sym (drop_rows_of w i n within))

  -- behind the rows nothing changes
  pub behind_inserted : drop (8 * (n + 1)) (written w (8 * i) (row ++ bytes_at w (8 * i) (8 * (n - i)))) ≡ drop (8 * (n + 1)) w
  behind_inserted =
      let v : List ℕ = row ++ bytes_at w (8 * i) (8 * (n - i)) in
      let e : 8 * i + length v ≡ 8 * (n + 1) =
      omega (arith, length-append row (bytes_at w (8 * i) (8 * (n - i))), length_bytes_at w (8 * i) (8 * (n - i)) (omega arith)) in
      rw e at (drop_written w (8 * i) v (omega arith))

module _ (w : List ℕ) (count n : ℕ) (within : n ≤ count) (fits : 8 * count ≤ length w) where
  -- what `drop_rows` writes
  pub rows_of_dropped : rows_of (count - n) (written w 0 (bytes_at w (8 * n) (8 * (count - n)) ++ zeros (8 * n))) ≡ drop n (rows_of count w)
  unfolding rows_from rows_of bytes_at
  rows_of_dropped =
      let m : ℕ = count - n in
      let b : List ℕ = bytes_at w (8 * n) (8 * m) in
      let v : List ℕ = b ++ zeros (8 * n) in
      let behind : List ℕ = drop (8 * 0 + length v) w in
      ap (λ (k : ℕ). rows_of k (written w 0 v)) (sym (zero-add m))
      ∙ rows_of_written w 0 m v (omega arith)
      ∙ ap (rows_of m) (append_assoc b (zeros (8 * n)) behind)
      ∙ rows_of_front m b (zeros (8 * n) ++ behind) (length_bytes_at w (8 * n) (8 * m) (omega arith))
      ∙ rows_of_take m (drop (8 * n) w)
      ∙ sym (drop_rows_of w n count within)

  -- behind the rows that are left are zeros, and then the words that were behind the rows
  pub behind_dropped : drop (8 * (count - n)) (written w 0 (bytes_at w (8 * n) (8 * (count - n)) ++ zeros (8 * n))) ≡ zeros (8 * n) ++ drop (8 * count) w
  unfolding written
  behind_dropped =
      let m : ℕ = count - n in
      let b : List ℕ = bytes_at w (8 * n) (8 * m) in
      let l : length b ≡ 8 * m = length_bytes_at w (8 * n) (8 * m) (omega arith) in
      let e : 0 + length (b ++ zeros (8 * n)) ≡ 8 * count = omega (arith, length-append b (zeros (8 * n)), length_zeros (8 * n)) in
      ap (drop (8 * m)) (append_assoc b (zeros (8 * n)) (drop (0 + length (b ++ zeros (8 * n))) w))
      ∙ drop_at b (zeros (8 * n) ++ drop (0 + length (b ++ zeros (8 * n))) w) (8 * m) l
      ∙ ap (λ (k : ℕ). zeros (8 * n) ++ drop k w) e
