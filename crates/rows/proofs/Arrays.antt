-- Rows as arrays: std's words on slices, and those of specs/Rows.antt. Assumes nothing.
use mathlib.Core.Path.{◌≡◌, refl, ap, ◌∙◌}
use mathlib.Core.List.{List, [], ◌∷◌}
use mathlib.Core.Bool.{Bool, true, false}
use mathlib.Core.Logic.{inl, inr}
use Prim.Native.Nat.{ℕ, zero, suc, ◌*◌, ◌/◌, ◌≤◌}
use native.Mathlib.Omega.{arith}
use lib.Dec.{leb, ltb}
use lib.ListN.{length, take, drop, get_or}
use lib.Seq.{length-take-le}
use borrow.Author.Tests.{lt-ltb, le-ltb}
use Rattle.laws.specs.Pick.{pick}
use Rattle.laws.proofs.Tests.{leb_cases}
use Rattle.std.specs.List.{position, position_or_len}
use Rattle.std.specs.Option.{unwrap_or}
use Rattle.std.specs.Simd.{first_chunks}
use Rattle.rows.specs.Rows.{rows_of, leading_below}
use Rattle.rows.proofs.Rows.{rows_of_take}

pub chunks_rows : (n : ℕ) (w : List ℕ) → first_chunks 8 n w ≡ rows_of n w
unfolding rows_of
chunks_rows zero w = refl
chunks_rows (suc n) w = ap (λ (l : List (List ℕ)). take 8 w ∷ l) (chunks_rows n (drop 8 w))

-- the first n rows, as `as_chunks` cuts them off
pub first_rows : (n : ℕ) (w : List ℕ) → 8 * n ≤ length w
    → first_chunks 8 (length (take (8 * n) w) / 8) (take (8 * n) w) ≡ rows_of n w
first_rows n w h =
    let l : length (take (8 * n) w) ≡ 8 * n = length-take-le (8 * n) w h in
    let q : length (take (8 * n) w) / 8 ≡ n = omega arith in
    rw q (chunks_rows n (take (8 * n) w) ∙ rows_of_take n w)

pub leading_within : (p : ℕ) (rows : List (List ℕ)) → leading_below p rows ≤ length rows
unfolding leading_below pick
leading_within p [] = omega arith
leading_within p (r ∷ rows) = go (ltb (get_or r 0 0) p) (leading_within p rows)
  where
    go : (t : Bool) → leading_below p rows ≤ length rows → pick t (suc (leading_below p rows)) 0 ≤ suc (length rows)
    go true h = omega arith
    go false h = omega arith

-- the leading rows, as `position` finds where they end
leading_prefix : (p : ℕ) (rows : List (List ℕ)) → position_or_len (λ row. leb p (get_or row 0 0)) rows ≡ leading_below p rows
unfolding leading_below pick
leading_prefix p [] = refl
leading_prefix p (r ∷ rows) =
    let n : position_or_len (λ row. leb p (get_or row 0 0)) rows ≡ leading_below p rows = leading_prefix p rows in
    elim (leb_cases p (get_or r 0 0)) [
      | inl l ↦ rw (l.0, le-ltb (get_or r 0 0) p l.1)
      | inr g ↦ rw (g.0, lt-ltb (get_or r 0 0) p g.1, n) (omega arith)
    ]

pub leading_position : (p : ℕ) (rows : List (List ℕ))
    → unwrap_or (position (λ row. leb p (get_or row 0 0)) rows) (length rows) ≡ leading_below p rows
leading_position p rows =
    let found : ℕ = position_or_len (λ row. leb p (get_or row 0 0)) rows in
    let m : found ≡ leading_below p rows = leading_prefix p rows in
    elim (leb_cases (suc found) (length rows)) [
      | inl l ↦ rw (lt-ltb found (length rows) l.1) m
      | inr g ↦ rw (le-ltb found (length rows) (omega arith)) (omega (arith, leading_within p rows))
    ]
