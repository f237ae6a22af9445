-- The loop that asks the blocks of some working rows for a reference: none of those before row i includes it. Assumes nothing.
use mathlib.Core.Path.{◌≡◌, refl, sym, ap, ◌∙◌, subst}
use mathlib.Core.Bool.{Bool, true, false}
use mathlib.Core.List.{List, [], ◌∷◌}
use Prim.Native.Nat.{ℕ, ◌+◌, ◌-◌, ◌≤◌, ◌<◌}
use native.Mathlib.Numerals.{add-one}
use lib.ListN.{length, take, drop, get_or, drop_of_length-le}
use lib.Seq.{drop-cons}
use borrow.Author.Tests.{eq-eqb, ne_eqb}
use Rattle.std.proofs.Common.{Some, None}
use Rattle.laws.specs.Pick.{pick}
use Rattle.laws.specs.Bytes.{bytes_at}
use Rattle.rows.specs.Rows.{rows_of}
use Rattle.filters.proofs.Slices.{slice_behind}
use Rattle.types.specs.declared.BlockReference.{BlockReference}
use Rattle.laws.proofs.Parts.{part_is}
use Rattle.filters.specs.Segments.{between}
use Rattle.includes.specs.References.{among, any}
use Rattle.includes.specs.Includes.{includes_of, Parses}
use Rattle.reach.specs.Reaching.{BlockPlace, AllBlockPlaces, reached_in, parents_of, is_reached}
use Rattle.includes.proofs.Tests.{or_false}

-- ---- By the first row, and by the first parent

module _ (s : List ℕ) (r : List ℕ) (rows : List (List ℕ)) where
  pub not_reached : get_or r 0 0 ≡ 0 → reached_in s (r ∷ rows) ≡ reached_in s rows
  unfolding reached_in pick
  not_reached e = rw (eq-eqb (get_or r 0 0) 0 e)

  pub is_reached_lem : (get_or r 0 0 ≡ 0 → ⊥) → reached_in s (r ∷ rows) ≡ includes_of (bytes_at s (get_or r 1 0) (get_or r 2 0)) ∷ reached_in s rows
  unfolding reached_in pick
  is_reached_lem n = rw (ne_eqb (get_or r 0 0) 0 n)

first_parent : (includes : List BlockReference) (parents : List (List BlockReference)) (x : BlockReference)
    → is_reached (includes ∷ parents) x ≡ pick (among x includes) true (is_reached parents x)
unfolding is_reached any
first_parent includes parents x = refl

only_parent : (includes : List BlockReference) (x : BlockReference) → is_reached (includes ∷ []) x ≡ among x includes
unfolding is_reached any
only_parent includes x = or_false (among x includes)

-- ---- The loop

module _ (s : List ℕ) (rows : List (List ℕ)) (x : BlockReference) where
  abbrev asked : List (List ℕ) → Bool
  asked l = is_reached (reached_in s l) x

  pub record Asking (i : ℕ) : Type 0 where
    placed : AllBlockPlaces s (drop i rows)
    left : asked rows ≡ asked (drop i rows)

  pub asking_start : AllBlockPlaces s rows → Asking 0
  asking_start h = record { placed = h; left = refl }

  module _ {i : ℕ} (h : Asking i) where
    module _ (more : i < length rows) where
      abbrev row : List ℕ
      row = get_or rows i []

      cons : drop i rows ≡ row ∷ drop (i + 1) rows
      cons = rw add-one (drop-cons rows i [] more)

      both : BlockPlace s row × AllBlockPlaces s (drop (i + 1) rows)
      both = subst (AllBlockPlaces s) cons h.placed

      pub row_within : get_or row 1 0 + get_or row 2 0 ≤ length s
      row_within = both.0.within

      -- the bytes that the code lends
      abbrev lent : List ℕ
      lent = take (get_or row 1 0 + get_or row 2 0 - get_or row 1 0) (drop (get_or row 1 0) s)

      these : bytes_at s (get_or row 1 0) (get_or row 2 0) ≡ lent
      these = sym (part_is s (get_or row 1 0) (get_or row 2 0))

      pub row_parses : Parses lent
      row_parses = subst Parses these both.0.parses

      pub asking_skip : get_or row 0 0 ≡ 0 → Asking (i + 1)
      asking_skip e =
          record {
            placed = both.1;
            left = h.left ∙ ap asked cons ∙ ap (λ (l : List (List BlockReference)). is_reached l x) (not_reached s row (drop (i + 1) rows) e);
          }

      module _ (reached : get_or row 0 0 ≡ 0 → ⊥) {t : Bool} (test : t ≡ among x (includes_of lent)) where
        asks : asked rows ≡ pick t true (asked (drop (i + 1) rows))
        asks =
            h.left
            ∙ ap asked cons
            ∙ ap (λ (l : List (List BlockReference)). is_reached l x) (is_reached_lem s row (drop (i + 1) rows) reached)
            ∙ first_parent (includes_of (bytes_at s (get_or row 1 0) (get_or row 2 0))) (reached_in s (drop (i + 1) rows)) x
            ∙ ap (λ (t : Bool). pick t true (asked (drop (i + 1) rows))) (sym (test ∙ ap (λ (l : List ℕ). among x (includes_of l)) (sym these)))

        pub asking_found : t ≡ true → true ≡ asked rows
        unfolding pick
        asking_found e = sym (asks ∙ rw e)

        pub asking_next : t ≡ false → Asking (i + 1)
        unfolding pick
        asking_next e = record { placed = both.1; left = asks ∙ rw e }

    pub asking_none : length rows ≤ i → false ≡ asked rows
    unfolding is_reached any reached_in
    asking_none ended = sym (h.left ∙ ap asked (drop_of_length-le rows {i = i} ended))

-- ---- The later block, or the rows

-- the rows that the code lends
pub lent_rows : (from : ℕ) (work : List ℕ) (n : ℕ) {rows : List (List ℕ)} → rows ≡ rows_of (from + n) work
    → take (length rows - from) (drop from rows) ≡ between from (from + n) work
lent_rows from work n is = rw is (slice_behind (from + n) work from)

module _ (s bytes : List ℕ) (from : ℕ) (work : List ℕ) (x : BlockReference) where
  pub by_later : among x (includes_of bytes) ≡ is_reached (parents_of s bytes None from work) x
  unfolding parents_of
  by_later = sym (only_parent (includes_of bytes) x)

  pub by_rows : (n : ℕ) → is_reached (reached_in s (between from (from + n) work)) x ≡ is_reached (parents_of s bytes (Some n) from work) x
  unfolding parents_of
  by_rows n = refl
