-- Rows that are kept by a test, and rows between two places. Assumes nothing.
use mathlib.Core.Path.{◌≡◌, refl, sym, ap, ◌∙◌}
use mathlib.Core.Bool.{Bool, true, false}
use mathlib.Core.List.{List, [], ◌∷◌}
use mathlib.Core.Logic.{⊎_elim}
use Prim.Native.Nat.{ℕ, suc, ◌-◌, ◌≤◌}
use native.Mathlib.Omega.{arith}
use lib.Dec.{eqb}
use lib.ListN.{length, take, drop, length-drop, drop_of_length-le}
use lib.Seq.{take_all}
use Rattle.std.specs.Prelude.{Some, None}
use Rattle.laws.specs.Pick.{pick}
use Rattle.laws.proofs.Tests.{leb_cases}
use Rattle.rows.specs.Rows.{rows_of}
use Rattle.rows.proofs.Rows.{length_rows_of, rows_from, rows_from_none, drop_rows_of, take_rows_of}
use Rattle.filters.specs.Filters.{keep, author_of}
use Rattle.filters.specs.Segments.{between, chosen}

-- ---- By a test of the first row

module _ (f : List ℕ → Bool) (r : List ℕ) (rows : List (List ℕ)) where
  pub keep_yes : f r ≡ true → keep f (r ∷ rows) ≡ r ∷ keep f rows
  unfolding keep pick
  keep_yes e = rw e

  pub keep_no : f r ≡ false → keep f (r ∷ rows) ≡ keep f rows
  unfolding keep pick
  keep_no e = rw e

-- what two tests keep
pub keep_both : (f g : List ℕ → Bool) (rows : List (List ℕ)) → keep (λ r. pick (f r) (g r) false) rows ≡ keep f (keep g rows)
unfolding keep pick
keep_both f g [] = refl
keep_both f g (r ∷ rows) = go (f r) (g r) refl refl (keep_both f g rows)
  where
    go : (a b : Bool) → f r ≡ a → g r ≡ b → keep (λ r. pick (f r) (g r) false) rows ≡ keep f (keep g rows)
        → keep (λ r. pick (f r) (g r) false) (r ∷ rows) ≡ keep f (keep g (r ∷ rows))
    go true true p q rest = rw (p, q) (rw p (ap (λ (l : List (List ℕ)). r ∷ l) rest))
    go true false p q rest = rw (p, q) rest
    go false true p q rest = rw (p, q) (rw p rest)
    go false false p q rest = rw (p, q) rest

pub keep_every : (rows : List (List ℕ)) → keep (λ r. true) rows ≡ rows
unfolding keep pick
keep_every [] = refl
keep_every (r ∷ rows) = ap (λ (l : List (List ℕ)). r ∷ l) (keep_every rows)

pub keep_shorter : (f : List ℕ → Bool) (rows : List (List ℕ)) → length (keep f rows) ≤ length rows
unfolding keep pick
keep_shorter f [] = omega arith
keep_shorter f (r ∷ rows) = go (f r) (keep_shorter f rows)
  where
    go : (t : Bool) → length (keep f rows) ≤ length rows → length (pick t (r ∷ keep f rows) (keep f rows)) ≤ suc (length rows)
    go true h = omega arith
    go false h = omega arith

-- ---- A limit that all rows keep

pub chosen_every : (limit : ℕ) (rows : List (List ℕ)) → length rows ≤ limit → chosen None limit rows ≡ rows
unfolding chosen
chosen_every limit rows h = rw (keep_every rows) (take_all limit rows h)

pub chosen_author : (author limit : ℕ) (rows : List (List ℕ)) → length rows ≤ limit
    → chosen (Some author) limit rows ≡ keep (λ r. eqb (author_of r) author) rows
unfolding chosen
chosen_author author limit rows h =
    take_all limit (keep (λ r. eqb (author_of r) author) rows) (omega (arith, keep_shorter (λ r. eqb (author_of r) author) rows))

pub chosen_limited : (author limit : ℕ) (rows : List (List ℕ))
    → chosen (Some author) limit rows ≡ take limit (keep (λ r. eqb (author_of r) author) rows)
unfolding chosen
chosen_limited author limit rows = refl

-- ---- Between two places

pub between_rows : (from to : ℕ) (w : List ℕ) → between from to w ≡ rows_from w from to
unfolding between
between_rows from to w =
    ⊎_elim
    (λ h. drop_rows_of w from to h.1)
    (λ h.
    drop_of_length-le (rows_of to w) {i = from} (omega (arith, length_rows_of to w))
    ∙ sym (rows_from_none w from to (omega (arith, h.1))))
    (leb_cases from to)

pub between_part : (from to n : ℕ) (w : List ℕ) → to ≤ n → between from to w ≡ drop from (take to (rows_of n w))
unfolding between
between_part from to n w h = ap (drop from) (sym (take_rows_of w to n h))

pub length_between : (from to : ℕ) (w : List ℕ) → length (between from to w) ≡ to - from
unfolding between
length_between from to w = omega (arith, length-drop from (rows_of to w), length_rows_of to w)
