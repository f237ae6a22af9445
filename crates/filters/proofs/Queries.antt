-- The rows that the code collects are those that a query asks for. Assumes nothing.
use mathlib.Core.Path.{◌≡◌, sym, ap, ap₂, ◌∙◌}
use mathlib.Core.List.{List, []}
use Prim.Native.Nat.{ℕ, suc, ◌+◌, ◌*◌, ◌≤◌, ◌<◌}
use native.Mathlib.Omega.{arith}
use lib.Dec.{eqb, ltb}
use lib.ListN.{length, take, drop, get_or, length-drop}
use lib.Seq.{take-add, drop_at, length-take-le}
use Rattle.std.specs.Prelude.{Option, Some, None, Ok, Err}
use Rattle.rows.specs.Rows.{rows_of, Ascending, below, place_of}
use Rattle.rows.proofs.Rows.{length_rows_of}
use Rattle.rows.proofs.Places.{at_place, gap_place, present_row}
use Rattle.types.specs.declared.BlockReference.{BlockReference}
use Rattle.index.specs.Keys.{key_words}
use Rattle.tables.proofs.Tables.{eights_rows_of}
use Rattle.filters.specs.Filters.{keep, round_of, author_of, by_reference, by_round, by_author_round, own_after, rounds_after, among, others_after}
use Rattle.filters.specs.Segments.{between, chosen, up_to, rounds_long}
use Rattle.filters.proofs.Keeping.{keep_both, chosen_every, chosen_author, chosen_limited, between_part, length_between}
use Rattle.filters.proofs.Segments.{absent_none, present_one, ascending_rising, round_key, up_to_within, above_segment, round_segment}
use Rattle.filters.proofs.Rounds.{long_within, rounds_segment}

-- the rows of a round, of an author or of all
abbrev pub of_round_and : Option ℕ → ℕ → List (List ℕ) → List (List ℕ)
of_round_and None round = by_round round
of_round_and (Some author) round = by_author_round author round

module _ (w : List ℕ) (count : ℕ) (fits : 8 * count ≤ length w) where
  pub above_within : (round : ℕ) → up_to round (rows_of count w) ≤ count
  above_within round = omega (arith, up_to_within round (rows_of count w), length_rows_of count w)

  module _ (ascends : Ascending (rows_of count w)) where
    -- by reference
    pub at_reference : (x : BlockReference) {i : ℕ} → Ok i ≡ place_of (key_words x) (rows_of count w)
        → (i < count) × (chosen None 1 (between i (i + 1) w) ≡ by_reference x (rows_of count w))
    unfolding by_reference
    at_reference x {i} is =
        let at = at_place (key_words x) (rows_of count w) is in
        let small : i < count = omega (arith, (present_row (key_words x) (rows_of count w) ascends at.0).0, at.1, length_rows_of count w) in
        let one : suc (below (key_words x) (rows_of count w)) ≡ i + 1 = omega (arith, at.1) in (
          small,
          chosen_every 1 (between i (i + 1) w) (omega (arith, length_between i (i + 1) w))
              ∙ between_part i (i + 1) count w (omega arith)
              ∙ ap₂ (λ (a b : ℕ). drop a (take b (rows_of count w))) at.1 (sym one)
              ∙ sym (present_one (key_words x) (rows_of count w) ascends at.0),
        )

    pub no_reference_lem : (x : BlockReference) {i : ℕ} → Err i ≡ place_of (key_words x) (rows_of count w) → by_reference x (rows_of count w) ≡ []
    unfolding by_reference
    no_reference_lem x is = absent_none (key_words x) (rows_of count w) (gap_place (key_words x) (rows_of count w) is).0

    -- by round
    round_rows : (round : ℕ) → between (below (round_key round) (rows_of count w)) (up_to round (rows_of count w)) w
        ≡ keep (λ r. eqb (round_of r) round) (rows_of count w)
    unfolding round_of
    round_rows round =
        between_part (below (round_key round) (rows_of count w)) (up_to round (rows_of count w)) count w (above_within round)
        ∙ sym (round_segment round (rows_of count w) (ascending_rising (rows_of count w) ascends) (eights_rows_of count w fits))

    module _ (round : ℕ) {from to : ℕ} (starts : from ≡ below (round_key round) (rows_of count w)) (ends : to ≡ up_to round (rows_of count w)) where
      pub round_within : 8 * to ≤ length w
      round_within = omega (arith, above_within round)

      these : between from to w ≡ keep (λ r. eqb (round_of r) round) (rows_of count w)
      these = ap₂ (λ (from to : ℕ). between from to w) starts ends ∙ round_rows round

      of_round : chosen None (length w) (between from to w) ≡ by_round round (rows_of count w)
      unfolding by_round
      of_round = chosen_every (length w) (between from to w) (omega (arith, length_between from to w, round_within)) ∙ these

      of_author_round : (author : ℕ) → chosen (Some author) (length w) (between from to w) ≡ by_author_round author round (rows_of count w)
      unfolding by_author_round
      of_author_round author =
          chosen_author author (length w) (between from to w) (omega (arith, length_between from to w, round_within))
          ∙ ap (keep (λ r. eqb (author_of r) author)) these
          ∙ sym (keep_both (λ r. eqb (author_of r) author) (λ r. eqb (round_of r) round) (rows_of count w))

      pub of_rounds : (author : Option ℕ)
          → chosen author (length w) (between from to w) ≡ of_round_and author round (rows_of count w)
      of_rounds None = of_round
      of_rounds (Some author) = of_author_round author

    -- after a round
    module _ (after : ℕ) {from : ℕ} (starts : from ≡ up_to after (rows_of count w)) where
      pub after_within : from ≤ count
      after_within = omega (arith, above_within after)

      pub own_after_lem : (own limit : ℕ) → chosen (Some own) limit (between from count w) ≡ own_after own after limit (rows_of count w)
      unfolding own_after between round_of
      own_after_lem own limit =
          ap (λ (from : ℕ). chosen (Some own) limit (drop from (rows_of count w))) starts
          ∙ chosen_limited own limit (drop (up_to after (rows_of count w)) (rows_of count w))
          ∙ ap (λ (l : List (List ℕ)). take limit (keep (λ r. eqb (author_of r) own) l))
          (sym (above_segment after (rows_of count w) (ascending_rising (rows_of count w) ascends)))
          ∙ sym (ap (take limit) (keep_both (λ r. eqb (author_of r) own) (λ r. ltb after (get_or r 0 0)) (rows_of count w)))

      module _ (limit : ℕ) {to : ℕ} (ends : to ≡ from + rounds_long limit (between from count w)) where
        to_within : to ≤ count
        unfolding between
        to_within =
            omega (arith, ends, long_within limit (drop from (rows_of count w)), length-drop from (rows_of count w), length_rows_of count w, after_within)

        pub rounds_within_lem : 8 * to ≤ length w
        rounds_within_lem = omega (arith, to_within)

        rounds_rows : between from to w ≡ keep (λ r. among (round_of r) (take limit (rounds_after after (rows_of count w)))) (rows_of count w)
        unfolding between
        rounds_rows =
            let rows : List (List ℕ) = rows_of count w in
            between_part from to count w to_within
            ∙ ap (λ (n : ℕ). drop from (take n rows)) ends
            ∙ ap (drop from) (take-add from (rounds_long limit (drop from rows)) rows)
            ∙ drop_at (take from rows) (take (rounds_long limit (drop from rows)) (drop from rows)) from
            (length-take-le from rows (omega (arith, after_within, length_rows_of count w)))
            ∙ ap (λ (from : ℕ). take (rounds_long limit (drop from rows)) (drop from rows)) starts
            ∙ sym (rounds_segment after limit rows (ascending_rising rows ascends))

        pub others_after_lem : (author : ℕ) → chosen (Some author) (length w) (between from to w) ≡ others_after author after limit (rows_of count w)
        unfolding others_after
        others_after_lem author =
            chosen_author author (length w) (between from to w) (omega (arith, length_between from to w, to_within))
            ∙ ap (keep (λ r. eqb (author_of r) author)) rounds_rows
            ∙ sym (keep_both (λ r. eqb (author_of r) author) (λ r. among (round_of r) (take limit (rounds_after after (rows_of count w)))) (rows_of count w))
