-- Rows that a key or a round asks for are a segment of ascending rows. Assumes nothing.
use mathlib.Core.Path.{◌≡◌, refl, sym, ap, ap₂, ◌∙◌, subst}
use mathlib.Core.Bool.{Bool, true, false, true≢false}
use mathlib.Core.List.{List, [], ◌∷◌}
use mathlib.Core.Logic.{⊎_elim}
use Prim.Native.Nat.{ℕ, zero, suc, ◌≤◌, ◌<◌}
use native.Mathlib.Omega.{arith}
use lib.Dec.{eqb, leb, ltb}
use lib.ListN.{length, take, drop, get_or, length-take}
use borrow.Author.Tests.{le-leb, lt-leb, ne_eqb, lt-ltb, le-ltb}
use Rattle.std.specs.Prelude.{Result, Ok, Err, MatchResult}
use Rattle.std.specs.List.Sorted.{IsPartitionedBy, IsPartitionPoint}
use Rattle.laws.specs.Pick.{pick}
use Rattle.laws.proofs.Tests.{leb_cases, eqb_cases}
use Rattle.std.specs.declared.cmp.Ordering.TheVariants.{Less}
use Rattle.rows.specs.Rows.{key, choose, compared, Leads, Ascending, below, has_key, place_of}
use Rattle.tables.specs.Tables.{EightWords}
use Rattle.rows.proofs.Lexicographic.{order_cases, first_below, first_above, first_same, not_above, not_equal, compared_equal, below_of}
use Rattle.rows.proofs.Ascending.{leads_none, leads_trans}
use Rattle.rows.proofs.Places.{at_place, gap_place}
use Rattle.filters.specs.Filters.{keep}
use Rattle.filters.specs.Segments.{up_to}
use Rattle.filters.proofs.Keeping.{keep_yes, keep_no}

-- ---- The row of a key

abbrev keyed : List ℕ → List ℕ → Bool
keyed k r = choose (compared (key r) k) false true false

-- the number in the answer of a search, whichever answer it is
pub place_below : (k : List ℕ) (rows : List (List ℕ)) (r : Result ℕ ℕ) {n : ℕ} → r ≡ place_of k rows → MatchResult r (λ i. n ≡ i) (λ i. n ≡ i)
    → n ≡ below k rows
place_below k rows (Ok i) e is = is ∙ (at_place k rows e).1
place_below k rows (Err i) e is = is ∙ (gap_place k rows e).1

pub absent_none : (k : List ℕ) (rows : List (List ℕ)) → has_key k rows ≡ false → keep (keyed k) rows ≡ []
unfolding keep has_key choose pick
absent_none k [] p = refl
absent_none k (r ∷ rows) p =
    ⊎_elim
    (λ b. rw b (absent_none k rows (rw b at p)))
    (⊎_elim (λ e. absurd (true≢false (rw e at p))) (λ a. rw a (absent_none k rows (rw a at p))))
    (order_cases (compared (key r) k))

pub present_one : (k : List ℕ) (rows : List (List ℕ)) → Ascending rows → has_key k rows ≡ true
    → keep (keyed k) rows ≡ drop (below k rows) (take (suc (below k rows)) rows)
unfolding keep has_key below choose pick
present_one k [] a p = absurd (true≢false (sym p))
present_one k (r ∷ rows) a p =
    ⊎_elim
    (λ b. rw b (present_one k rows a.1 (rw b at p)))
    (⊎_elim
    (λ e.
    let none = leads_none k rows (subst (λ (j : List ℕ). Leads j rows) (compared_equal (key r) k e) a.0) a.1 in
    rw (e, none.0) (ap (λ (l : List (List ℕ)). r ∷ l) (absent_none k rows none.1)))
    (λ g.
    let none = leads_none k rows (leads_trans k (key r) rows (below_of (key r) k g) a.0) a.1 in
    absurd (true≢false (sym (rw g at p) ∙ none.1))))
    (order_cases (compared (key r) k))

-- ---- Rounds ascend weakly

-- each row is of round p or a later one
abbrev pub AtLeast : ℕ → List (List ℕ) → Type 0
AtLeast p [] = Unit {0}
AtLeast p (r ∷ rows) = (p ≤ get_or r 0 0) × AtLeast p rows

-- no row is of an earlier round than one before it
abbrev pub Rising : List (List ℕ) → Type 0
Rising [] = Unit {0}
Rising (r ∷ rows) = AtLeast (get_or r 0 0) rows × Rising rows

pub least_weaker : (p q : ℕ) (rows : List (List ℕ)) → q ≤ p → AtLeast p rows → AtLeast q rows
least_weaker p q [] h l = tt
least_weaker p q (r ∷ rows) h l = (omega (arith, l.0), least_weaker p q rows h l.1)

below_round : (r s : List ℕ) → compared (key r) (key s) ≡ Less → get_or r 0 0 ≤ get_or s 0 0
unfolding key compared
below_round [] s h = omega arith
below_round (x ∷ r) [] h = absurd (not_above (sym h))
below_round (x ∷ r) (y ∷ s) h =
    ⊎_elim
    (λ t. t.1)
    (λ f. absurd (not_above (sym h ∙ first_above x y (take 5 r) (take 5 s) f.1)))
    (leb_cases x y)

leads_least : (r : List ℕ) (rows : List (List ℕ)) → Leads (key r) rows → Ascending rows → AtLeast (get_or r 0 0) rows
leads_least r [] l a = tt
leads_least r (s ∷ rows) l a =
    let up : get_or r 0 0 ≤ get_or s 0 0 = below_round r s l in
    (up, least_weaker (get_or s 0 0) (get_or r 0 0) rows up (leads_least s rows a.0 a.1))

pub ascending_rising : (rows : List (List ℕ)) → Ascending rows → Rising rows
ascending_rising [] a = tt
ascending_rising (r ∷ rows) a = (leads_least r rows a.0 a.1, ascending_rising rows a.1)

-- tests that agree on later rows keep the same of them
pub keep_same : (p : ℕ) (f g : List ℕ → Bool) → ((r : List ℕ) → p ≤ get_or r 0 0 → f r ≡ g r) → (rows : List (List ℕ)) → AtLeast p rows
    → keep f rows ≡ keep g rows
unfolding keep
keep_same p f g same [] l = refl
keep_same p f g same (r ∷ rows) l = rw (same r l.0, keep_same p f g same rows l.1)

pub keep_none : (p : ℕ) (f : List ℕ → Bool) → ((r : List ℕ) → p ≤ get_or r 0 0 → f r ≡ false) → (rows : List (List ℕ)) → AtLeast p rows
    → keep f rows ≡ []
unfolding keep pick
keep_none p f never [] l = refl
keep_none p f never (r ∷ rows) l = rw (never r l.0) (keep_none p f never rows l.1)

-- ---- The first row of a round, and the first above it

module _ (round : ℕ) where
  pub up_to_next : (r : List ℕ) (rows : List (List ℕ)) → get_or r 0 0 ≤ round → up_to round (r ∷ rows) ≡ suc (up_to round rows)
  unfolding up_to pick
  up_to_next r rows h = rw (le-leb (get_or r 0 0) round h)

  pub up_to_none : (p : ℕ) (rows : List (List ℕ)) → round < p → AtLeast p rows → up_to round rows ≡ 0
  unfolding up_to pick
  up_to_none p [] h l = refl
  up_to_none p (r ∷ rows) h l = rw (lt-leb (get_or r 0 0) round (omega (arith, l.0))) (up_to_none p rows h l.1)

  pub up_to_within : (rows : List (List ℕ)) → up_to round rows ≤ length rows
  unfolding up_to pick
  up_to_within [] = omega arith
  up_to_within (r ∷ rows) = go (leb (get_or r 0 0) round) (up_to_within rows)
    where
      go : (t : Bool) → up_to round rows ≤ length rows → pick t (suc (up_to round rows)) (up_to round rows) ≤ suc (length rows)
      go true h = omega arith
      go false h = omega arith

-- ---- The first row above a round, as `partition_point` finds it

least_at : (p : ℕ) (rows : List (List ℕ)) (j : ℕ) (d : List ℕ) → AtLeast p rows → j < length rows → p ≤ get_or (get_or rows j d) 0 0
least_at p [] j d l h = absurd (omega arith)
least_at p (r ∷ rows) zero d l h = l.0
least_at p (r ∷ rows) (suc j) d l h = least_at p rows j d l.1 (omega arith)

rising_at : (rows : List (List ℕ)) (i j : ℕ) (d : List ℕ) → Rising rows → i ≤ j → j < length rows
    → get_or (get_or rows i d) 0 0 ≤ get_or (get_or rows j d) 0 0
rising_at [] i j d g o h = absurd (omega arith)
rising_at (r ∷ rows) zero zero d g o h = omega arith
rising_at (r ∷ rows) zero (suc j) d g o h = least_at (get_or r 0 0) rows j d g.0 (omega arith)
rising_at (r ∷ rows) (suc i) zero d g o h = absurd (omega arith)
rising_at (r ∷ rows) (suc i) (suc j) d g o h = rising_at rows i j d g.1 (omega arith) (omega arith)

module _ (round : ℕ) where
  -- whether a row is up to the round
  abbrev pub early : List ℕ → Bool
  early r = leb (get_or r 0 0) round

  early_parts : (rows : List (List ℕ)) → Rising rows → IsPartitionedBy early rows
  early_parts rows g i j d o h e =
      ⊎_elim
      (λ t. le-leb _ _ (omega (arith, t.1, rising_at rows i j d g o h)))
      (λ f. absurd (true≢false (sym e ∙ f.0)))
      (leb_cases (get_or (get_or rows j d) 0 0) round)

  parted : (rows : List (List ℕ)) (i : ℕ) → i ≤ length rows → IsPartitionPoint (λ r. early r ≡ true) (λ r. early r ≡ false) rows i
      → i ≡ up_to round rows
  unfolding up_to pick
  parted [] i b h = omega arith
  parted (r ∷ rows) zero b h =
      let e : early r ≡ false = h.1 0 [] (omega arith) (omega arith) in
      rw e (parted rows 0 (omega arith) (λ j d o l. absurd (omega arith), λ j d o l. h.1 (suc j) d (omega arith) (omega arith)))
  parted (r ∷ rows) (suc i) b h =
      let e : early r ≡ true = h.0 0 [] (omega arith) (omega arith) in
      rw e (ap suc (parted rows i (omega arith) (λ j d o l. h.0 (suc j) d (omega arith) (omega arith), λ j d o l. h.1 (suc j) d (omega arith) (omega arith))))

  pub point_found : (rows : List (List ℕ)) (i : ℕ) → Ascending rows → i ≤ length rows
      → (IsPartitionedBy early rows → IsPartitionPoint (λ r. early r ≡ true) (λ r. early r ≡ false) rows i)
      → i ≡ up_to round rows
  point_found rows i a b h = parted rows i b (h (early_parts rows (ascending_rising rows a)))

-- the key with which a round begins
abbrev pub round_key : ℕ → List ℕ
round_key round = round ∷ 0 ∷ 0 ∷ 0 ∷ 0 ∷ 0 ∷ []

-- no words are below as many zeros
abbrev zero_words : ℕ → List ℕ
zero_words zero = []
zero_words (suc n) = 0 ∷ zero_words n

not_below_zeros : (n : ℕ) (a : List ℕ) → n ≤ length a → compared a (zero_words n) ≡ Less → ⊥
unfolding compared
not_below_zeros zero [] l h = not_equal (sym h)
not_below_zeros zero (x ∷ a) l h = not_above (sym h)
not_below_zeros (suc n) [] l h = omega arith
not_below_zeros (suc n) (x ∷ a) l h =
    ⊎_elim
    (λ t. not_above (sym h ∙ first_above x 0 a (zero_words n) t.1))
    (λ f. not_below_zeros n a (omega arith) (sym (first_same x 0 a (zero_words n) (omega (arith, f.1))) ∙ h))
    (leb_cases 1 x)

module _ (round : ℕ) where
  row_below : (r : List ℕ) → length r ≡ 8 → get_or r 0 0 < round → compared (key r) (round_key round) ≡ Less
  unfolding key
  row_below [] e h = absurd (omega arith)
  row_below (x ∷ r) e h = first_below x round (take 5 r) (0 ∷ 0 ∷ 0 ∷ 0 ∷ 0 ∷ []) h

  row_from : (r : List ℕ) → length r ≡ 8 → round ≤ get_or r 0 0 → compared (key r) (round_key round) ≡ Less → ⊥
  unfolding key
  row_from [] e l h = omega arith
  row_from (x ∷ r) e l h =
      ⊎_elim
      (λ t. not_above (sym h ∙ first_above x round (take 5 r) (0 ∷ 0 ∷ 0 ∷ 0 ∷ 0 ∷ []) t.1))
      (λ f.
      not_below_zeros 5 (take 5 r) (omega (arith, length-take 5 r))
      (sym (first_same x round (take 5 r) (0 ∷ 0 ∷ 0 ∷ 0 ∷ 0 ∷ []) (omega (arith, f.1))) ∙ h))
      (leb_cases (suc round) x)

  pub lower_next : (r : List ℕ) (rows : List (List ℕ)) → length r ≡ 8 → get_or r 0 0 < round
      → below (round_key round) (r ∷ rows) ≡ suc (below (round_key round) rows)
  unfolding below choose
  lower_next r rows e h = rw (row_below r e h)

  lower_skip : (r : List ℕ) (rows : List (List ℕ)) → length r ≡ 8 → round ≤ get_or r 0 0
      → below (round_key round) (r ∷ rows) ≡ below (round_key round) rows
  unfolding below choose
  lower_skip r rows e h =
      ⊎_elim
      (λ b. absurd (row_from r e h b))
      (⊎_elim (λ q. rw q) (λ g. rw g))
      (order_cases (compared (key r) (round_key round)))

  pub lower_none : (p : ℕ) (rows : List (List ℕ)) → EightWords rows → round ≤ p → AtLeast p rows → below (round_key round) rows ≡ 0
  unfolding below
  lower_none p [] e h l = refl
  lower_none p (r ∷ rows) e h l = lower_skip r rows e.0 (omega (arith, l.0)) ∙ lower_none p rows e.1 h l.1

-- the first row above a round is the first whose key is not below that of the next round
pub up_to_below : (round : ℕ) (rows : List (List ℕ)) → EightWords rows → up_to round rows ≡ below (round_key (suc round)) rows
unfolding up_to below pick
up_to_below round [] e = refl
up_to_below round (r ∷ rows) e =
    ⊎_elim
    (λ t.
    up_to_next round r rows t.1
    ∙ ap suc (up_to_below round rows e.1)
    ∙ sym (lower_next (suc round) r rows e.0 (omega (arith, t.1))))
    (λ f.
    above f.0
    ∙ up_to_below round rows e.1
    ∙ sym (lower_skip (suc round) r rows e.0 (omega (arith, f.1))))
    (leb_cases (get_or r 0 0) round)
  where
    above : leb (get_or r 0 0) round ≡ false → up_to round (r ∷ rows) ≡ up_to round rows
    above t = rw t

-- ---- Segments

-- the rows above a round
pub above_segment : (after : ℕ) (rows : List (List ℕ)) → Rising rows → keep (λ r. ltb after (get_or r 0 0)) rows ≡ drop (up_to after rows) rows
unfolding keep up_to
above_segment after [] l = refl
above_segment after (r ∷ rows) l =
    ⊎_elim
    (λ t.
    keep_no (λ r. ltb after (get_or r 0 0)) r rows (le-ltb after (get_or r 0 0) t.1)
    ∙ above_segment after rows l.1
    ∙ sym (ap (λ (n : ℕ). drop n (r ∷ rows)) (up_to_next after r rows t.1)))
    (λ f.
    let rest : up_to after rows ≡ 0 = up_to_none after (get_or r 0 0) rows f.1 l.0 in
    let none : up_to after (r ∷ rows) ≡ 0 = up_to_none after (get_or r 0 0) (r ∷ rows) f.1 (omega arith, l.0) in
    keep_yes (λ r. ltb after (get_or r 0 0)) r rows (lt-ltb after (get_or r 0 0) f.1)
    ∙ ap (λ (l : List (List ℕ)). r ∷ l) (above_segment after rows l.1 ∙ ap (λ (n : ℕ). drop n rows) rest)
    ∙ sym (ap (λ (n : ℕ). drop n (r ∷ rows)) none))
    (leb_cases (get_or r 0 0) after)

-- the rows of a round
pub round_segment : (round : ℕ) (rows : List (List ℕ)) → Rising rows → EightWords rows
    → keep (λ r. eqb (get_or r 0 0) round) rows ≡ drop (below (round_key round) rows) (take (up_to round rows) rows)
unfolding keep up_to below
round_segment round [] l e = refl
round_segment round (r ∷ rows) l e =
    ⊎_elim
    (λ t.
    keep_no (λ r. eqb (get_or r 0 0) round) r rows (ne_eqb (get_or r 0 0) round (λ same. omega (arith, t.1)))
    ∙ round_segment round rows l.1 e.1
    ∙ sym (ap₂ part (lower_next round r rows e.0 t.1) (up_to_next round r rows (omega (arith, t.1)))))
    (λ f.
    let first : below (round_key round) rows ≡ 0 = lower_none round (get_or r 0 0) rows e.1 (omega (arith, f.1)) l.0 in
    let none : below (round_key round) (r ∷ rows) ≡ 0 = lower_skip round r rows e.0 (omega (arith, f.1)) ∙ first in
    ⊎_elim
    (λ s.
    keep_yes (λ r. eqb (get_or r 0 0) round) r rows s.0
    ∙ ap (λ (l : List (List ℕ)). r ∷ l) (round_segment round rows l.1 e.1 ∙ ap (λ (n : ℕ). drop n (take (up_to round rows) rows)) first)
    ∙ sym (ap₂ part none (up_to_next round r rows (omega (arith, s.1)))))
    (λ d.
    let later : round < get_or r 0 0 = omega (arith, f.1, d.1) in
    keep_none (get_or r 0 0) (λ r. eqb (get_or r 0 0) round) (λ s h. ne_eqb (get_or s 0 0) round (λ same. omega (arith, h))) (r ∷ rows) (omega arith, l.0)
    ∙ sym (ap₂ part none (up_to_none round (get_or r 0 0) (r ∷ rows) later (omega arith, l.0))))
    (eqb_cases (get_or r 0 0) round))
    (leb_cases (suc (get_or r 0 0)) round)
  where
    part : ℕ → ℕ → List (List ℕ)
    part a b = drop a (take b (r ∷ rows))
