-- Parts of a slice of rows: which rows of the table they are, and which of them a query asks for. Assumes nothing.
use mathlib.Core.Path.{◌≡◌, sym, ap, ap₂, ◌∙◌}
use mathlib.Core.List.{List, [], ◌∷◌}
use Prim.Native.Nat.{ℕ, suc, ◌+◌, ◌-◌, ◌≤◌, ◌<◌}
use native.Mathlib.Omega.{arith}
use lib.Dec.{eqb, ltb}
use lib.ListN.{length, take, drop, get_or, length-take, length-drop}
use lib.Seq.{take_all, drop-cons}
use Rattle.std.specs.Prelude.{Option, Some, None, Ok, Err}
use Rattle.std.proofs.lemmas.Slice.{between_is}
use Rattle.types.specs.declared.BlockReference.{BlockReference}
use Rattle.rows.specs.Rows.{rows_of, Ascending, below, place_of}
use Rattle.rows.proofs.Rows.{length_rows_of, take_rows_of}
use Rattle.rows.proofs.Places.{at_place, gap_place, present_row}
use Rattle.tables.specs.Tables.{EightWords}
use Rattle.index.specs.Keys.{key_words}
use Rattle.filters.specs.Filters.{keep, round_of, author_of, by_reference, by_round, by_author_round, own_after, rounds_after, among, others_after}
use Rattle.filters.specs.Segments.{between, chosen, up_to, rounds_long}
use Rattle.filters.proofs.Keeping.{keep_both, chosen_every, chosen_author, chosen_limited}
use Rattle.filters.proofs.Segments.{absent_none, present_one, ascending_rising, round_key, up_to_within, above_segment, round_segment}
use Rattle.filters.proofs.Rounds.{long_within, rounds_segment}
use Rattle.filters.proofs.Queries.{of_round_and}

-- ---- The rows of a table, as `&rows[from..to]`, `&rows[from..]` and `&rows[..to]`; row i is `get_or_rows_of` of the crate rows

module _ (count : ℕ) (w : List ℕ) where
  pub slice_between : (from to : ℕ) → to ≤ count → take (to - from) (drop from (rows_of count w)) ≡ between from to w
  unfolding between
  slice_between from to h = between_is (rows_of count w) from to ∙ ap (drop from) (take_rows_of w to count h)

  pub slice_behind : (from : ℕ) → take (length (rows_of count w) - from) (drop from (rows_of count w)) ≡ between from count w
  slice_behind from = rw (length_rows_of count w) (slice_between from count (omega arith))

  pub slice_before : (to : ℕ) → to ≤ count → take to (rows_of count w) ≡ between 0 to w
  unfolding between
  slice_before to h = take_rows_of w to count h

-- ---- Parts of any rows

module _ (rows : List (List ℕ)) where
  pub length_part : (from to : ℕ) → to ≤ length rows → length (take (to - from) (drop from rows)) ≡ to - from
  length_part from to h = simp (length-take, length-drop) (omega arith)

  pub part_behind : (from : ℕ) → take (length rows - from) (drop from rows) ≡ drop from rows
  part_behind from = take_all (length rows - from) (drop from rows) (simp length-drop (omega arith))

  pub part_one : (i : ℕ) → i < length rows → take (i + 1 - i) (drop i rows) ≡ get_or rows i [] ∷ []
  part_one i h = let one : i + 1 - i ≡ suc 0 = omega arith in rw (one, drop-cons rows i [])

  -- by reference
  pub reference_absent : (x : BlockReference) {i : ℕ} → Err i ≡ place_of (key_words x) rows → by_reference x rows ≡ []
  unfolding by_reference
  reference_absent x is = absent_none (key_words x) rows (gap_place (key_words x) rows is).0

  module _ (ascends : Ascending rows) where
    pub reference_row : (x : BlockReference) {i : ℕ} → Ok i ≡ place_of (key_words x) rows
        → (i < length rows) × (get_or rows i [] ∷ [] ≡ by_reference x rows)
    unfolding by_reference
    reference_row x {i} is =
        let at = at_place (key_words x) rows is in
        let within : i < length rows = omega (arith, (present_row (key_words x) rows ascends at.0).0, at.1) in
        let one : suc (below (key_words x) rows) ≡ i + 1 = omega (arith, at.1) in (
          within,
          sym (part_one i within)
              ∙ between_is rows i (i + 1)
              ∙ ap₂ (λ (a b : ℕ). drop a (take b rows)) at.1 (sym one)
              ∙ sym (present_one (key_words x) rows ascends at.0),
        )

    -- by round
    module _ (eights : EightWords rows) (round : ℕ) {from to : ℕ} (starts : from ≡ below (round_key round) rows) (ends : to ≡ up_to round rows) where
      pub round_part_within : to ≤ length rows
      round_part_within = omega (arith, up_to_within round rows)

      pub round_part : take (to - from) (drop from rows) ≡ keep (λ r. eqb (round_of r) round) rows
      unfolding round_of
      round_part =
          between_is rows from to
          ∙ ap₂ (λ (a b : ℕ). drop a (take b rows)) starts ends
          ∙ sym (round_segment round rows (ascending_rising rows ascends) eights)

      few : (limit : ℕ) → length rows ≤ limit → length (take (to - from) (drop from rows)) ≤ limit
      few limit h = omega (arith, length_part from to round_part_within, round_part_within)

      of_round : (limit : ℕ) → length rows ≤ limit → chosen None limit (take (to - from) (drop from rows)) ≡ by_round round rows
      unfolding by_round
      of_round limit h = chosen_every limit (take (to - from) (drop from rows)) (few limit h) ∙ round_part

      of_author_round : (author limit : ℕ) → length rows ≤ limit
          → chosen (Some author) limit (take (to - from) (drop from rows)) ≡ by_author_round author round rows
      unfolding by_author_round
      of_author_round author limit h =
          chosen_author author limit (take (to - from) (drop from rows)) (few limit h)
          ∙ ap (keep (λ r. eqb (author_of r) author)) round_part
          ∙ sym (keep_both (λ r. eqb (author_of r) author) (λ r. eqb (round_of r) round) rows)

      pub round_chosen : (author : Option ℕ) (limit : ℕ) → length rows ≤ limit
          → chosen author limit (take (to - from) (drop from rows)) ≡ of_round_and author round rows
      round_chosen None = of_round
      round_chosen (Some author) = of_author_round author

    -- after a round
    module _ (after : ℕ) {from : ℕ} (starts : from ≡ up_to after rows) where
      pub after_part_within : from ≤ length rows
      after_part_within = omega (arith, up_to_within after rows)

      pub own_chosen : (own limit : ℕ) → chosen (Some own) limit (drop from rows) ≡ own_after own after limit rows
      unfolding own_after round_of
      own_chosen own limit =
          chosen_limited own limit (drop from rows)
          ∙ ap (λ (n : ℕ). take limit (keep (λ r. eqb (author_of r) own) (drop n rows))) starts
          ∙ ap (λ (l : List (List ℕ)). take limit (keep (λ r. eqb (author_of r) own) l))
          (sym (above_segment after rows (ascending_rising rows ascends)))
          ∙ sym (ap (take limit) (keep_both (λ r. eqb (author_of r) own) (λ r. ltb after (get_or r 0 0)) rows))

      module _ (limit : ℕ) {to : ℕ} (ends : to ≡ rounds_long limit (drop from rows)) where
        pub rounds_part_within : to ≤ length (drop from rows)
        rounds_part_within = omega (arith, long_within limit (drop from rows))

        pub rounds_part : take to (drop from rows) ≡ keep (λ r. among (round_of r) (take limit (rounds_after after rows))) rows
        rounds_part =
            ap (λ (n : ℕ). take n (drop from rows)) ends
            ∙ ap (λ (n : ℕ). take (rounds_long limit (drop n rows)) (drop n rows)) starts
            ∙ sym (rounds_segment after limit rows (ascending_rising rows ascends))

        pub others_chosen : (author most : ℕ) → length rows ≤ most
            → chosen (Some author) most (take to (drop from rows)) ≡ others_after author after limit rows
        unfolding others_after
        others_chosen author most h =
            chosen_author author most (take to (drop from rows)) (simp (length-take, length-drop) (omega arith))
            ∙ ap (keep (λ r. eqb (author_of r) author)) rounds_part
            ∙ sym (keep_both (λ r. eqb (author_of r) author) (λ r. among (round_of r) (take limit (rounds_after after rows))) rows)
