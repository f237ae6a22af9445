-- Whether ascending rows have one of a round, read at the place of the round's lowest key. Assumes nothing.
use mathlib.Core.Path.{◌≡◌, refl, sym, ap, ◌∙◌}
use mathlib.Core.Bool.{Bool, true, false, true≢false}
use mathlib.Core.List.{List, [], ◌∷◌}
use mathlib.Core.Logic.{⊎_elim}
use Prim.Native.Nat.{ℕ, suc, ◌*◌, ◌≤◌, ◌<◌}
use native.Mathlib.Omega.{arith}
use lib.Dec.{eqb, ltb}
use lib.ListN.{length, take, drop, get_or, drop_of_length-le}
use lib.Seq.{drop-cons}
use borrow.Author.Tests.{eq-eqb, ne_eqb, lt-ltb, le-ltb}
use Rattle.laws.specs.Pick.{pick}
use Rattle.laws.proofs.Tests.{leb_cases, eqb_cases}
use Rattle.std.specs.declared.cmp.Ordering.TheVariants.{Less, Greater}
use Rattle.std.specs.Prelude.{Ok, Err}
use Rattle.rows.specs.Rows.{key, choose, compared, Ascending, below, has_key, place_of}
use Rattle.tables.specs.Tables.{EightWords}
use Rattle.rows.proofs.Lexicographic.{order_cases, not_above, first_below, first_above, first_same, below_of}
use Rattle.rows.proofs.Ascending.{leads_trans, leads_none}
use Rattle.rows.proofs.Places.{below_within, at_place, gap_place}
use Rattle.index.specs.Keys.{exists_at}
use Rattle.tables.proofs.Tables.{eights_told}
use Rattle.index.proofs.Existence.{lowest, exists_place}
use Rattle.exists.specs.Exists.{round_there}
use Rattle.store.proofs.Rounds.{Past, past}

module _ (round : ℕ) where
  -- the lowest key of the round
  abbrev first : List ℕ
  first = lowest 0 round

  -- whether the first of the rows, if there is one, is of the round
  abbrev first_is : List (List ℕ) → Bool
  first_is [] = false
  first_is (r ∷ rows) = eqb (get_or r 0 0) round

  past_none : (rows : List (List ℕ)) → Past round rows → round_there round rows ≡ false
  unfolding round_there pick
  past_none [] p = refl
  past_none (r ∷ rows) p = rw (ne_eqb (get_or r 0 0) round (λ e. omega (arith, p.0))) (past_none rows p.1)

  -- A key of the round is not below the lowest: where its authority is 0, the row alone would not be found at its place.
  not_below : (r : List ℕ) → length r ≡ 8 → get_or r 0 0 ≡ round → compared (key r) first ≡ Less → ⊥
  unfolding key exists_at pick below has_key choose
  not_below [] h e l = absurd (omega arith)
  not_below (x ∷ []) h e l = absurd (omega arith)
  not_below (x ∷ y ∷ r) h e l =
      ⊎_elim
      (λ z.
      let there : exists_at 0 round ((x ∷ y ∷ r) ∷ []) ≡ true = rw (eq-eqb y 0 z.1, eq-eqb x round e) in
      true≢false (sym there ∙ exists_place 0 round ((x ∷ y ∷ r) ∷ []) (h, tt) (tt, tt) ∙ rw l))
      (λ n.
      let second : 0 < y = omega (arith, n.1) in
      not_above (
      sym l
      ∙ first_same x round (y ∷ take 4 r) (0 ∷ 0 ∷ 0 ∷ 0 ∷ 0 ∷ []) e
      ∙ first_above y 0 (take 4 r) (0 ∷ 0 ∷ 0 ∷ 0 ∷ []) second
      ))
      (eqb_cases y 0)

  key_below : (r : List ℕ) → length r ≡ 8 → get_or r 0 0 < round → compared (key r) first ≡ Less
  unfolding key
  key_below [] h l = absurd (omega arith)
  key_below (x ∷ r) h l = first_below x round (take 5 r) (0 ∷ 0 ∷ 0 ∷ 0 ∷ 0 ∷ []) l

  key_above : (r : List ℕ) → length r ≡ 8 → round < get_or r 0 0 → compared (key r) first ≡ Greater
  unfolding key
  key_above [] h l = absurd (omega arith)
  key_above (x ∷ r) h l = first_above x round (take 5 r) (0 ∷ 0 ∷ 0 ∷ 0 ∷ 0 ∷ []) l

  -- where the first row is above the lowest key, it decides
  at_front : (r : List ℕ) (rows : List (List ℕ)) → Ascending (r ∷ rows) → compared (key r) first ≡ Greater
      → pick (has_key first (r ∷ rows)) true (first_is (drop (below first (r ∷ rows)) (r ∷ rows))) ≡ eqb (get_or r 0 0) round
  unfolding below has_key choose pick
  at_front r rows a g =
      let none = leads_none first rows (leads_trans first (key r) rows (below_of (key r) first g) a.0) a.1 in
      rw (g, none.0, none.1) refl

  there_place : (rows : List (List ℕ)) → EightWords rows → Ascending rows
      → round_there round rows ≡ pick (has_key first rows) true (first_is (drop (below first rows) rows))
  unfolding round_there below has_key choose pick
  there_place [] e a = refl
  there_place (r ∷ rows) e a =
      ⊎_elim
      (λ l.
      rw (ne_eqb (get_or r 0 0) round (λ q. omega (arith, l.1)), key_below r e.0 l.1) (there_place rows e.1 a.1))
      (λ n.
      ⊎_elim
      (λ g.
      let other : eqb (get_or r 0 0) round ≡ false = ne_eqb (get_or r 0 0) round (λ q. omega (arith, g.1)) in
      rw other (past_none rows (past round r rows g.1 e a).1)
      ∙ sym other
      ∙ sym (at_front r rows a (key_above r e.0 g.1)))
      (λ m.
      let same : get_or r 0 0 ≡ round = omega (arith, n.1, m.1) in
      let here : eqb (get_or r 0 0) round ≡ true = eq-eqb (get_or r 0 0) round same in
      ⊎_elim
      (λ b. absurd (not_below r e.0 same b))
      (⊎_elim
      (λ q. let found : has_key first (r ∷ rows) ≡ true = rw q in rw (here, found))
      (λ g. rw here (sym here ∙ sym (at_front r rows a g))))
      (order_cases (compared (key r) first)))
      (leb_cases (suc round) (get_or r 0 0)))
      (leb_cases (suc (get_or r 0 0)) round)

  -- Where the lowest key is among the rows, or is to be put.
  module _ (rows : List (List ℕ)) (a : Ascending rows) (told : (i : ℕ) → i < length rows → length (get_or rows i []) ≡ 8) {i : ℕ} where
    pub there_found : Ok i ≡ place_of first rows → true ≡ round_there round rows
    unfolding pick
    there_found is = sym (there_place rows (eights_told rows told) a ∙ rw (at_place first rows is).0)

    -- r is what the code reads in the row at that place, if there is one
    pub there_not_found : {r : Bool} → Err i ≡ place_of first rows → r ≡ pick (ltb i (length rows)) (eqb (get_or (get_or rows i []) 0 0) round) false
        → r ≡ round_there round rows
    unfolding pick
    there_not_found is read =
        let gap = gap_place first rows is in
        read
        ∙ sym (
        there_place rows (eights_told rows told) a
        ∙ rw (gap.0, sym gap.1)
        (⊎_elim
        (λ l. rw (drop-cons rows i [] l.1, lt-ltb i (length rows) l.1))
        (λ g. rw (drop_of_length-le rows {i = i} (omega (arith, g.1)), le-ltb i (length rows) (omega (arith, g.1))))
        (leb_cases (suc i) (length rows)))
        )
