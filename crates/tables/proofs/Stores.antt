-- What the stores of a row and the removal of leading rows answer and write, by what the code found. Assumes nothing.
use mathlib.Core.Path.{◌≡◌, sym, ap, ap₂, ◌∙◌}
use mathlib.Core.Bool.{true, false}
use mathlib.Core.List.{List, ◌++◌, append_assoc}
use Prim.Native.Nat.{ℕ, ◌+◌, ◌-◌, ◌*◌, ◌≤◌, ◌<◌}
use native.Mathlib.Omega.{arith}
use lib.ListN.{length, take, drop, length-take, length-drop}
use lib.Seq.{drop-drop}
use borrow.Author.Tests.{le-leb, lt-leb}
use Rattle.laws.specs.Pick.{pick}
use Rattle.laws.specs.Bytes.{bytes_at, written}
use Rattle.std.specs.Prelude.{Some, None, Ok, Err}
use Rattle.rows.specs.Rows.{rows_of, key, place_of, Ascending, leading_below}
use Rattle.tables.specs.Tables.{has_room, pushed, upserted_at, upserted, counted_at, upsert_count}
use Rattle.rows.proofs.Rows.{length_rows_of}
use Rattle.rows.proofs.Arrays.{leading_within}
use borrow.Rule.Slice.PartMut.{put_mid}
use Rattle.std.specs.List.{copy_within}
use Rattle.rows.proofs.Places.{at_place, gap_place, present_row, below_within}

-- ---- Writes, as std says them

pub put_written : (s : List ℕ) (p k : ℕ) {v w : List ℕ} → v ≡ w → k ≡ length w → put_mid p k s v ≡ written s p w
unfolding written
put_written s p k {v} {w} q e =
    ap (λ (l : List ℕ). take p s ++ (v ++ l)) (drop-drop k p s)
    ∙ sym (append_assoc (take p s) v (drop (p + k) s))
    ∙ ap₂ (λ (l : List ℕ) (n : ℕ). take p s ++ l ++ drop (p + n) s) q e

pub rows_moved : (t : List ℕ) (n count to : ℕ) → n ≤ count → 8 * count ≤ length t
    → copy_within t (8 * n) (8 * count) to ≡ written t to (bytes_at t (8 * n) (8 * (count - n)))
unfolding written bytes_at
rows_moved t n count to o h =
    let m : 8 * count - 8 * n ≡ 8 * (count - n) = omega arith in
    let l : length (take (8 * (count - n)) (drop (8 * n) t)) ≡ 8 * (count - n) = simp (length-take, length-drop) (omega arith) in
    rw (m, l)

-- ---- Room for one row more

pub room : (n count : ℕ) → 8 * count + 8 ≤ n → has_room n count ≡ true
unfolding has_room
room n count h = le-leb (8 * count + 8) n h

pub no_room : (n count : ℕ) → n < 8 * count + 8 → has_room n count ≡ false
unfolding has_room
no_room n count h = lt-leb (8 * count + 8) n h

pub pushed_room : (t : List ℕ) (count : ℕ) (row : List ℕ) → 8 * count + 8 ≤ length t → pushed t count row ≡ written t (8 * count) row
unfolding pushed pick
pushed_room t count row h = rw (room (length t) count h)

pub pushed_full : (t : List ℕ) (count : ℕ) (row : List ℕ) → length t < 8 * count + 8 → pushed t count row ≡ t
unfolding pushed pick
pushed_full t count row h = rw (no_room (length t) count h)

-- ---- Leading rows

pub leading_counted : (p : ℕ) (t : List ℕ) (count : ℕ) → leading_below p (rows_of count t) ≤ count
leading_counted p t count = omega (arith, leading_within p (rows_of count t), length_rows_of count t)

-- ---- A row stored at its place

module _ (t : List ℕ) (count : ℕ) (row : List ℕ) {i : ℕ} where
  module _ (is : Ok i ≡ place_of (key row) (rows_of count t)) where
    pub at_within : Ascending (rows_of count t) → i < count
    at_within a =
        let at = at_place (key row) (rows_of count t) is in
        omega (arith, (present_row (key row) (rows_of count t) a at.0).0, at.1, length_rows_of count t)

    pub at_words : written t (8 * i) row ≡ upserted t count row
    unfolding upserted upserted_at
    at_words = ap (upserted_at t count row) is

    pub at_count : Some count ≡ upsert_count t count row
    unfolding upsert_count counted_at
    at_count = ap (counted_at t count) is

  module _ (is : Err i ≡ place_of (key row) (rows_of count t)) where
    pub gap_within : i ≤ count
    gap_within =
        omega (arith, (gap_place (key row) (rows_of count t) is).1, below_within (key row) (rows_of count t), length_rows_of count t)

    pub gap_words : 8 * count + 8 ≤ length t
        → written t (8 * i) (row ++ bytes_at t (8 * i) (8 * (count - i))) ≡ upserted t count row
    unfolding upserted upserted_at pick
    gap_words h = sym (rw (room (length t) count h)) ∙ ap (upserted_at t count row) is

    pub gap_count : 8 * count + 8 ≤ length t → Some (count + 1) ≡ upsert_count t count row
    unfolding upsert_count counted_at pick
    gap_count h = sym (rw (room (length t) count h)) ∙ ap (counted_at t count) is

    pub full_words : length t < 8 * count + 8 → t ≡ upserted t count row
    unfolding upserted upserted_at pick
    full_words h = sym (rw (no_room (length t) count h)) ∙ ap (upserted_at t count row) is

    pub full_count : length t < 8 * count + 8 → None ≡ upsert_count t count row
    unfolding upsert_count counted_at pick
    full_count h = sym (rw (no_room (length t) count h)) ∙ ap (counted_at t count) is
