-- The first rounds above a round: which rows are theirs, and the loop that passes them. Assumes nothing.
use mathlib.Core.Path.{◌≡◌, refl, sym, ap, ap₂, ◌∙◌, subst}
use mathlib.Core.Bool.{Bool, true, false, true≢false, not}
use mathlib.Core.List.{List, [], ◌∷◌}
use mathlib.Core.Logic.{⊎_elim}
use Prim.Native.Nat.{ℕ, zero, suc, ◌+◌, ◌-◌, ◌≤◌, ◌<◌}
use native.Mathlib.Numerals.{add-one}
use native.Mathlib.Omega.{arith}
use lib.Dec.{eqb}
use lib.ListN.{length, take, drop, get_or, drop_of_length-le}
use lib.Seq.{drop-cons}
use borrow.Author.Tests.{eq-eqb, ne_eqb, lt-ltb, le-ltb}
use Rattle.laws.specs.Pick.{pick}
use Rattle.laws.proofs.Tests.{leb_cases, eqb_cases}
use Rattle.std.specs.Prelude.{Option, Some, None}
use Rattle.std.specs.Option.{option_eq}
use Rattle.filters.specs.Filters.{keep, round_of, rounds_after, among}
use Rattle.filters.specs.Segments.{up_to, rounds_within, rounds_long}
use Rattle.filters.proofs.Keeping.{keep_yes, keep_no}
use Rattle.filters.proofs.Segments.{AtLeast, Rising, least_weaker, keep_same, keep_none, up_to_next, up_to_none}

-- ---- The rounds above a round

module _ (after : ℕ) (r : List ℕ) (rows : List (List ℕ)) where
  after_skip : get_or r 0 0 ≤ after → rounds_after after (r ∷ rows) ≡ rounds_after after rows
  unfolding rounds_after round_of pick
  after_skip h = rw (le-ltb after (get_or r 0 0) h)

  after_alone : after < get_or r 0 0 → rounds_after after rows ≡ [] → rounds_after after (r ∷ rows) ≡ get_or r 0 0 ∷ []
  unfolding rounds_after round_of pick
  after_alone h e = rw (lt-ltb after (get_or r 0 0) h, e)

  after_again : {y : ℕ} {ys : List ℕ} → after < get_or r 0 0 → rounds_after after rows ≡ y ∷ ys → get_or r 0 0 ≡ y
      → rounds_after after (r ∷ rows) ≡ y ∷ ys
  unfolding rounds_after round_of pick
  after_again {y} h e same = rw (lt-ltb after (get_or r 0 0) h, e, eq-eqb (get_or r 0 0) y same)

  after_new : {y : ℕ} {ys : List ℕ} → after < get_or r 0 0 → rounds_after after rows ≡ y ∷ ys → (get_or r 0 0 ≡ y → ⊥)
      → rounds_after after (r ∷ rows) ≡ get_or r 0 0 ∷ y ∷ ys
  unfolding rounds_after round_of pick
  after_new {y} h e differ = rw (lt-ltb after (get_or r 0 0) h, e, ne_eqb (get_or r 0 0) y differ)

-- the round of the first row, and the rounds above it
pub rounds_cons : (after : ℕ) (r : List ℕ) (rows : List (List ℕ)) → after < get_or r 0 0 → AtLeast (get_or r 0 0) rows → Rising rows
    → rounds_after after (r ∷ rows) ≡ get_or r 0 0 ∷ rounds_after (get_or r 0 0) rows
unfolding rounds_after
rounds_cons after r [] h l g = after_alone after r [] h refl
rounds_cons after r (s ∷ rows) h l g =
    let next = rounds_cons after s rows (omega (arith, l.0)) g.0 g.1 in
    ⊎_elim
    (λ e.
    after_again after r (s ∷ rows) h next e.1
    ∙ ap (λ (x : ℕ). x ∷ rounds_after (get_or s 0 0) rows) (sym e.1)
    ∙ ap (λ (x : ℕ). get_or r 0 0 ∷ rounds_after x rows) (sym e.1)
    ∙ ap (λ (l : List ℕ). get_or r 0 0 ∷ l) (sym (after_skip (get_or r 0 0) s rows (omega (arith, e.1)))))
    (λ d.
    after_new after r (s ∷ rows) h next d.1
    ∙ ap (λ (l : List ℕ). get_or r 0 0 ∷ l) (sym (rounds_cons (get_or r 0 0) s rows (omega (arith, l.0, d.1)) g.0 g.1)))
    (eqb_cases (get_or r 0 0) (get_or s 0 0))

-- each is above the round
abbrev Beyond : ℕ → List ℕ → Type 0
Beyond after [] = Unit {0}
Beyond after (y ∷ ys) = (after < y) × Beyond after ys

not_beyond : (x after limit : ℕ) (l : List ℕ) → x ≤ after → Beyond after l → among x (take limit l) ≡ false
unfolding among pick
not_beyond x after zero l h b = refl
not_beyond x after (suc limit) [] h b = refl
not_beyond x after (suc limit) (y ∷ l) h b = rw (ne_eqb x y (λ same. omega (arith, b.0))) (not_beyond x after limit l h b.1)

rounds_beyond : (after : ℕ) (rows : List (List ℕ)) → Beyond after (rounds_after after rows)
unfolding rounds_after
rounds_beyond after [] = tt
rounds_beyond after (r ∷ rows) =
    ⊎_elim
    (λ t. subst (Beyond after) (sym (after_skip after r rows t.1)) (rounds_beyond after rows))
    (λ f. more f.1 (rounds_after after rows) refl (rounds_beyond after rows))
    (leb_cases (get_or r 0 0) after)
  where
    more : after < get_or r 0 0 → (l : List ℕ) → rounds_after after rows ≡ l → Beyond after l → Beyond after (rounds_after after (r ∷ rows))
    more h [] e b = subst (Beyond after) (sym (after_alone after r rows h e)) (h, tt)
    more h (y ∷ ys) e b =
        ⊎_elim
        (λ q. subst (Beyond after) (sym (after_again after r rows h e q.1)) b)
        (λ d. subst (Beyond after) (sym (after_new after r rows h e d.1)) (h, b))
        (eqb_cases (get_or r 0 0) y)

-- ---- The rows of the first rounds

abbrev in_rounds : List ℕ → List ℕ → Bool
in_rounds l r = among (get_or r 0 0) l

module _ (r : List ℕ) (rows : List (List ℕ)) where
  within_same : (limit round : ℕ) → get_or r 0 0 ≡ round → rounds_within limit round (r ∷ rows) ≡ suc (rounds_within limit round rows)
  unfolding rounds_within pick
  within_same zero round e = rw (eq-eqb (get_or r 0 0) round e)
  within_same (suc limit) round e = rw (eq-eqb (get_or r 0 0) round e)

  long_zero : rounds_long 0 (r ∷ rows) ≡ 0
  unfolding rounds_long
  long_zero = refl

  long_suc : (limit : ℕ) → rounds_long (suc limit) (r ∷ rows) ≡ suc (rounds_within limit (get_or r 0 0) rows)
  unfolding rounds_long
  long_suc limit = refl

  within_last : (round : ℕ) → (get_or r 0 0 ≡ round → ⊥) → rounds_within 0 round (r ∷ rows) ≡ 0
  unfolding rounds_within pick
  within_last round d = rw (ne_eqb (get_or r 0 0) round d)

  within_next : (limit round : ℕ) → (get_or r 0 0 ≡ round → ⊥) → rounds_within (suc limit) round (r ∷ rows) ≡ suc (rounds_within limit (get_or r 0 0) rows)
  unfolding rounds_within pick
  within_next limit round d = rw (ne_eqb (get_or r 0 0) round d)

among_first : (x : ℕ) (l : List ℕ) (y : ℕ) → y ≡ x → among y (x ∷ l) ≡ true
unfolding among pick
among_first x l y e = rw (eq-eqb y x e)

among_later : (x : ℕ) (l : List ℕ) (y : ℕ) → (y ≡ x → ⊥) → among y (x ∷ l) ≡ among y l
unfolding among pick
among_later x l y d = rw (ne_eqb y x d)

among_none : (x : ℕ) → among x [] ≡ false
unfolding among
among_none x = refl

within_within : (limit round : ℕ) (rows : List (List ℕ)) → rounds_within limit round rows ≤ length rows
unfolding rounds_within
within_within limit round [] = omega arith
within_within zero round (r ∷ rows) =
    ⊎_elim
    (λ e. omega (arith, within_same r rows 0 round e.1, within_within 0 round rows))
    (λ d. omega (arith, within_last r rows round d.1))
    (eqb_cases (get_or r 0 0) round)
within_within (suc limit) round (r ∷ rows) =
    ⊎_elim
    (λ e. omega (arith, within_same r rows (suc limit) round e.1, within_within (suc limit) round rows))
    (λ d. omega (arith, within_next r rows limit round d.1, within_within limit (get_or r 0 0) rows))
    (eqb_cases (get_or r 0 0) round)

pub long_within : (limit : ℕ) (rows : List (List ℕ)) → rounds_long limit rows ≤ length rows
unfolding rounds_long
long_within limit [] = omega arith
long_within zero (r ∷ rows) = omega arith
long_within (suc limit) (r ∷ rows) = omega (arith, within_within limit (get_or r 0 0) rows)

-- of a round that has begun and of the rounds behind it
abbrev Within : ℕ → ℕ → List (List ℕ) → Type 0
Within limit round rows = keep (in_rounds (round ∷ take limit (rounds_after round rows))) rows ≡ take (rounds_within limit round rows) rows

module _ (round : ℕ) (r : List ℕ) (rows : List (List ℕ)) where
  segment_same : (limit : ℕ) → get_or r 0 0 ≡ round → Within limit round rows → Within limit round (r ∷ rows)
  segment_same limit e rest =
      let these : List ℕ = round ∷ take limit (rounds_after round rows) in
      ap (λ (l : List ℕ). keep (in_rounds (round ∷ take limit l)) (r ∷ rows)) (after_skip round r rows (omega arith))
      ∙ keep_yes (in_rounds these) r rows (among_first round (take limit (rounds_after round rows)) (get_or r 0 0) e)
      ∙ ap (λ (l : List (List ℕ)). r ∷ l) rest
      ∙ sym (ap (λ (n : ℕ). take n (r ∷ rows)) (within_same r rows limit round e))

  module _ (past : round < get_or r 0 0) (g : Rising (r ∷ rows)) where
    segment_last : Within 0 round (r ∷ rows)
    segment_last =
        keep_none (get_or r 0 0) (in_rounds (round ∷ []))
        (λ s up. among_later round [] (get_or s 0 0) (λ same. omega arith) ∙ among_none (get_or s 0 0))
        (r ∷ rows) (omega arith, g.0)
        ∙ sym (ap (λ (n : ℕ). take n (r ∷ rows)) (within_last r rows round (λ same. omega arith)))

    segment_next : (limit : ℕ) → Within limit (get_or r 0 0) rows → Within (suc limit) round (r ∷ rows)
    segment_next limit rest =
        let y : ℕ = get_or r 0 0 in
        let these : List ℕ = y ∷ take limit (rounds_after y rows) in
        ap (λ (l : List ℕ). keep (in_rounds (round ∷ take (suc limit) l)) (r ∷ rows)) (rounds_cons round r rows past g.0 g.1)
        ∙ keep_yes (in_rounds (round ∷ these)) r rows
        (among_later round these y (λ same. omega arith) ∙ among_first y (take limit (rounds_after y rows)) y refl)
        ∙ ap (λ (l : List (List ℕ)). r ∷ l) (keep_same y (in_rounds (round ∷ these)) (in_rounds these) (λ s up. among_later round these (get_or s 0 0) (λ same. omega arith)) rows g.0 ∙ rest)
        ∙ sym (ap (λ (n : ℕ). take n (r ∷ rows)) (within_next r rows limit round (λ same. omega arith)))

within_segment : (limit round : ℕ) (rows : List (List ℕ)) → Rising rows → AtLeast round rows → Within limit round rows
unfolding keep rounds_within
within_segment limit round [] g l = refl
within_segment zero round (r ∷ rows) g l =
    ⊎_elim
    (λ e. segment_same round r rows 0 e.1 (within_segment 0 round rows g.1 l.1))
    (λ d. segment_last round r rows (omega (arith, l.0, d.1)) g)
    (eqb_cases (get_or r 0 0) round)
within_segment (suc limit) round (r ∷ rows) g l =
    ⊎_elim
    (λ e. segment_same round r rows (suc limit) e.1 (within_segment (suc limit) round rows g.1 l.1))
    (λ d. segment_next round r rows (omega (arith, l.0, d.1)) g limit (within_segment limit (get_or r 0 0) rows g.1 g.0))
    (eqb_cases (get_or r 0 0) round)

-- of the first rounds of rows that are all above a round
long_segment : (after limit : ℕ) (rows : List (List ℕ)) → Rising rows → AtLeast (suc after) rows
    → keep (in_rounds (take limit (rounds_after after rows))) rows ≡ take (rounds_long limit rows) rows
unfolding keep rounds_long
long_segment after limit [] g l = refl
long_segment after zero (r ∷ rows) g l =
    keep_none (suc after) (in_rounds []) (λ s up. among_none (get_or s 0 0)) (r ∷ rows) l
long_segment after (suc limit) (r ∷ rows) g l =
    let x : ℕ = get_or r 0 0 in
    ap (λ (l : List ℕ). keep (in_rounds (take (suc limit) l)) (r ∷ rows)) (rounds_cons after r rows (omega (arith, l.0)) g.0 g.1)
    ∙ keep_yes (in_rounds (x ∷ take limit (rounds_after x rows))) r rows (among_first x (take limit (rounds_after x rows)) x refl)
    ∙ ap (λ (l : List (List ℕ)). r ∷ l) (within_segment limit x rows g.1 g.0)

-- of the first rounds above a round
pub rounds_segment : (after limit : ℕ) (rows : List (List ℕ)) → Rising rows
    → keep (λ r. among (round_of r) (take limit (rounds_after after rows))) rows
    ≡ take (rounds_long limit (drop (up_to after rows) rows)) (drop (up_to after rows) rows)
unfolding keep up_to rounds_long round_of
rounds_segment after limit [] g = refl
rounds_segment after limit (r ∷ rows) g =
    ⊎_elim
    (λ t.
    let same : rounds_after after (r ∷ rows) ≡ rounds_after after rows = after_skip after r rows t.1 in
    ap (λ (l : List ℕ). keep (in_rounds (take limit l)) (r ∷ rows)) same
    ∙ keep_no (in_rounds (take limit (rounds_after after rows))) r rows (not_beyond (get_or r 0 0) after limit (rounds_after after rows) t.1 (rounds_beyond after rows))
    ∙ rounds_segment after limit rows g.1
    ∙ sym (ap (λ (n : ℕ). segment (drop n (r ∷ rows))) (up_to_next after r rows t.1)))
    (λ f.
    let none : up_to after (r ∷ rows) ≡ 0 = up_to_none after (get_or r 0 0) (r ∷ rows) f.1 (omega arith, g.0) in
    long_segment after limit (r ∷ rows) g (omega (arith, f.1), least f.1)
    ∙ sym (ap (λ (n : ℕ). segment (drop n (r ∷ rows))) none))
    (leb_cases (get_or r 0 0) after)
  where
    segment : List (List ℕ) → List (List ℕ)
    segment l = take (rounds_long limit l) l

    least : after < get_or r 0 0 → AtLeast (suc after) rows
    least h = least_weaker (get_or r 0 0) (suc after) rows (omega arith) g.0

-- ---- The loop over the rows of the first rounds

-- how many rows are still to come, where the last row's round is known and as many rounds are left
unfoldable pub to_come : ℕ → Option ℕ → List (List ℕ) → ℕ
to_come left None rows = rounds_long left rows
to_come left (Some round) rows = rounds_within left round rows

to_come_none : (left : ℕ) (last : Option ℕ) → to_come left last [] ≡ 0
unfolding to_come rounds_long rounds_within
to_come_none left None = refl
to_come_none zero (Some round) = refl
to_come_none (suc left) (Some round) = refl

module _ (r : List ℕ) (rows : List (List ℕ)) where
  to_come_same : (left : ℕ) → to_come left (Some (get_or r 0 0)) (r ∷ rows) ≡ suc (to_come left (Some (get_or r 0 0)) rows)
  unfolding to_come
  to_come_same left = within_same r rows left (get_or r 0 0) refl

  to_come_full : (last : Option ℕ) → (last ≡ Some (get_or r 0 0) → ⊥) → to_come 0 last (r ∷ rows) ≡ 0
  unfolding to_come
  to_come_full None d = long_zero r rows
  to_come_full (Some round) d = within_last r rows round (λ same. d (ap Some (sym same)))

  to_come_next : (left : ℕ) (last : Option ℕ) → (last ≡ Some (get_or r 0 0) → ⊥)
      → to_come (suc left) last (r ∷ rows) ≡ suc (to_come left (Some (get_or r 0 0)) rows)
  unfolding to_come
  to_come_next left None d = long_suc r rows left
  to_come_next left (Some round) d = within_next r rows left round (λ same. d (ap Some (sym same)))

-- as the code asks whether a row is of another round than the last
other_round : (last : Option ℕ) (x : ℕ) → not (option_eq eqb last (Some x)) ≡ true → last ≡ Some x → ⊥
other_round None x e same = cc
other_round (Some round) x e same =
    true≢false (sym e ∙ rw (eq-eqb round x (some_same same)) refl)
  where
    some_same : Some round ≡ Some x → round ≡ x
    some_same q = cc

same_round : (last : Option ℕ) (x : ℕ) → not (option_eq eqb last (Some x)) ≡ false → last ≡ Some x
same_round None x e = absurd (true≢false e)
same_round (Some round) x e =
    ⊎_elim (λ q. ap Some q.1) (λ d. absurd (true≢false (sym (rw d.0) ∙ e))) (eqb_cases round x)

pub record Passing (rows : List (List ℕ)) (limit i left : ℕ) (last : Option ℕ) : Type 0 where
  pub long : rounds_long limit rows ≡ i + to_come left last (drop i rows)

pub passing_start : (rows : List (List ℕ)) (limit : ℕ) → Passing rows limit 0 limit None
unfolding to_come
passing_start rows limit = record { long = omega arith }

module _ {rows : List (List ℕ)} {limit i left : ℕ} {last : Option ℕ} (h : Passing rows limit i left last) where
  pub passing_done : i ≡ length rows → length rows ≡ rounds_long limit rows
  passing_done all =
      let none : to_come left last (drop i rows) ≡ 0 =
      rw (drop_of_length-le rows {i = i} (omega arith)) (to_come_none left last) in
      omega (arith, h.long)

  module _ (more : i < length rows) where
    abbrev row : List ℕ
    row = get_or rows i []

    cons : drop i rows ≡ row ∷ drop (i + 1) rows
    cons = rw add-one (drop-cons rows i [] more)

    -- a row of the round that has begun
    pub passing_goes : not (option_eq eqb last (Some (get_or row 0 0))) ≡ false → Passing rows limit (i + 1) left last
    passing_goes test =
        let same : last ≡ Some (get_or row 0 0) = same_round last (get_or row 0 0) test in
        let step : to_come left last (drop i rows) ≡ suc (to_come left last (drop (i + 1) rows)) =
        rw (cons, same) (to_come_same row (drop (i + 1) rows) left) in
        record { long = omega (arith, h.long, step) }

    module _ (test : not (option_eq eqb last (Some (get_or row 0 0))) ≡ true) where
      begins : last ≡ Some (get_or row 0 0) → ⊥
      begins = other_round last (get_or row 0 0) test

      -- no further round is to come
      pub passing_full : left ≡ 0 → i ≡ rounds_long limit rows
      passing_full full =
          let none : to_come left last (drop i rows) ≡ 0 = rw (full, cons) (to_come_full row (drop (i + 1) rows) last begins) in
          omega (arith, h.long)

      pub passing_begins : 0 < left → Passing rows limit (i + 1) (left - 1) (Some (get_or row 0 0))
      passing_begins room =
          let some : left ≡ suc (left - 1) = omega arith in
          let step : to_come left last (drop i rows) ≡ suc (to_come (left - 1) (Some (get_or row 0 0)) (drop (i + 1) rows)) =
          ap₂ (λ (m : ℕ) (l : List (List ℕ)). to_come m last l) some cons ∙ to_come_next row (drop (i + 1) rows) (left - 1) last begins in
          record { long = omega (arith, h.long, step) }
