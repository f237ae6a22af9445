-- Rounds of ascending rows from a high one down: a round's rows lie between two places, and a round without rows is passed over.
-- Assumes nothing.
use mathlib.Core.Path.{◌≡◌, refl, sym, ap, ap₂, ◌∙◌}
use mathlib.Core.List.{List, [], ◌∷◌, ◌++◌}
use mathlib.Core.Logic.{⊎_elim}
use Prim.Native.Nat.{ℕ, zero, suc, ◌-◌, ◌≤◌, ◌<◌}
use native.Mathlib.Omega.{arith}
use lib.ListN.{length, take, drop, get_or, length-take, drop_of_length-le}
use borrow.Author.Tests.{le-leb, lt-leb}
use Rattle.laws.specs.Pick.{pick}
use Rattle.laws.proofs.Tests.{leb_cases}
use Rattle.std.proofs.lemmas.Slice.{between_is}
use Rattle.rows.specs.Rows.{Ascending, below}
use Rattle.tables.specs.Tables.{EightWords}
use Rattle.rows.proofs.Places.{below_within}
use Rattle.filters.specs.Filters.{round_of, by_round}
use Rattle.filters.proofs.Segments.{AtLeast, Rising, ascending_rising, round_key, lower_next, lower_none, up_to_below, round_segment}
use Rattle.linked.specs.Linked.{down_to}

-- ---- Rows before the first of a round are of earlier rounds, and those from it on are not

abbrev pub round_at : List (List ℕ) → ℕ → ℕ
round_at rows i = get_or (get_or rows i []) 0 0

least_at : (p : ℕ) (rows : List (List ℕ)) (i : ℕ) → AtLeast p rows → i < length rows → p ≤ round_at rows i
least_at p [] i l h = absurd (omega arith)
least_at p (r ∷ rows) zero l h = l.0
least_at p (r ∷ rows) (suc i) l h = least_at p rows i l.1 (omega arith)

module _ (x : ℕ) where
  none_before : (r : List ℕ) (rows : List (List ℕ)) → Rising (r ∷ rows) → EightWords (r ∷ rows) → x ≤ get_or r 0 0 → below (round_key x) (r ∷ rows) ≡ 0
  none_before r rows l e h = lower_none x (get_or r 0 0) (r ∷ rows) e h (omega arith, l.0)

  before_first : (rows : List (List ℕ)) → Rising rows → EightWords rows → (i : ℕ) → i < below (round_key x) rows → round_at rows i < x
  unfolding below
  before_first [] l e i h = absurd (omega arith)
  before_first (r ∷ rows) l e zero h =
      ⊎_elim (λ t. t.1) (λ f. absurd (omega (arith, none_before r rows l e (omega (arith, f.1))))) (leb_cases (suc (get_or r 0 0)) x)
  before_first (r ∷ rows) l e (suc i) h =
      ⊎_elim
      (λ t. before_first rows l.1 e.1 i (omega (arith, lower_next x r rows e.0 t.1)))
      (λ f. absurd (omega (arith, none_before r rows l e (omega (arith, f.1)))))
      (leb_cases (suc (get_or r 0 0)) x)

  from_first : (rows : List (List ℕ)) → Rising rows → EightWords rows → (i : ℕ) → below (round_key x) rows ≤ i → i < length rows → x ≤ round_at rows i
  from_first [] l e i h k = absurd (omega arith)
  from_first (r ∷ rows) l e zero h k =
      ⊎_elim (λ t. absurd (omega (arith, lower_next x r rows e.0 t.1))) (λ f. omega (arith, f.1)) (leb_cases (suc (get_or r 0 0)) x)
  from_first (r ∷ rows) l e (suc i) h k =
      ⊎_elim
      (λ t. from_first rows l.1 e.1 i (omega (arith, lower_next x r rows e.0 t.1)) (omega arith))
      (λ f. omega (arith, f.1, least_at (get_or r 0 0) rows i l.0 (omega arith)))
      (leb_cases (suc (get_or r 0 0)) x)

-- ---- Rounds passed over

module _ (low : ℕ) (rows : List (List ℕ)) where
  pub down_none : (n : ℕ) → n ≤ low → down_to low n rows ≡ []
  unfolding down_to pick
  down_none zero h = refl
  down_none (suc n) h = rw (lt-leb low n (omega arith))

  down_next : (n : ℕ) → low ≤ n → down_to low (suc n) rows ≡ by_round n rows ++ down_to low n rows
  unfolding down_to pick
  down_next n h = rw (le-leb low n h)

  down_gap : (n above : ℕ) → low ≤ n → n ≤ above → ((m : ℕ) → n ≤ m → m < above → by_round m rows ≡ []) → down_to low above rows ≡ down_to low n rows
  down_gap n zero l h none = let e : n ≡ 0 = omega arith in ap (λ (m : ℕ). down_to low m rows) (sym e)
  down_gap n (suc above) l h none =
      ⊎_elim
      (λ t.
      down_next above (omega (arith, t.1))
      ∙ ap (λ (r : List (List ℕ)). r ++ down_to low above rows) (none above t.1 (omega arith))
      ∙ down_gap n above l t.1 (λ m p q. none m p (omega arith)))
      (λ f. let e : n ≡ suc above = omega (arith, f.1) in ap (λ (m : ℕ). down_to low m rows) (sym e))
      (leb_cases n above)

-- ---- Ascending rows: `to` is the first row from the round `above` on

module _ (rows : List (List ℕ)) (eights : EightWords rows) (ascends : Ascending rows) (low above : ℕ) {first to : ℕ}
    (starts : first ≡ below (round_key low) rows) (ends : to ≡ below (round_key above) rows) where
  rising : Rising rows
  rising = ascending_rising rows ascends

  pub to_within : to ≤ length rows
  to_within = omega (arith, below_within (round_key above) rows)

  -- no row from `to` on is of a round before `above`
  not_above : (m : ℕ) → m ≤ above → below (round_key m) rows ≤ to
  not_above m h =
      ⊎_elim
      (λ t. t.1)
      (λ f.
      absurd (
      omega (
        arith,
        before_first m rows rising eights to f.1,
        from_first above rows rising eights to (omega arith) (omega (arith, f.1, below_within (round_key m) rows)),
      )
      ))
      (leb_cases (below (round_key m) rows) to)

  -- the rows of a round
  round_rows : (m : ℕ) {from next : ℕ} → from ≡ below (round_key m) rows → next ≡ below (round_key (suc m)) rows
      → by_round m rows ≡ drop from (take next rows)
  unfolding by_round round_of
  round_rows m {from} {next} f n =
      round_segment m rows rising eights
      ∙ ap₂ (λ (a b : ℕ). drop a (take b rows)) (sym f) (up_to_below m rows eights ∙ sym n)

  no_rows : (m : ℕ) → to ≡ below (round_key m) rows → to ≡ below (round_key (suc m)) rows → by_round m rows ≡ []
  no_rows m f n =
      round_rows m f n
      ∙ drop_of_length-le (take to rows) {i = to} (omega (arith, length-take to rows))

  -- where no row of the rounds from low on is left
  pub down_ends : to ≤ first → down_to low above rows ≡ []
  down_ends none =
      let at : (m : ℕ) → low ≤ m → m ≤ above → to ≡ below (round_key m) rows =
      (λ m p q.
      ⊎_elim
      (λ t.
      let row : ℕ = below (round_key m) rows in
      absurd (
      omega (
        arith,
        before_first low rows rising eights row (omega (arith, t.1)),
        from_first m rows rising eights row (omega arith) (omega (arith, t.1, to_within)),
      )
      ))
      (λ f. omega (arith, f.1, not_above m q))
      (leb_cases (suc (below (round_key m) rows)) to)) in
      ⊎_elim
      (λ t. down_none low rows above t.1)
      (λ f.
      down_gap low rows low above (omega arith) (omega (arith, f.1)) (λ m p q. no_rows m (at m p (omega arith)) (at (suc m) (omega arith) (omega arith)))
      ∙ down_none low rows low (omega arith))
      (leb_cases above low)

  module _ (more : first < to) {round : ℕ} (is : round ≡ round_at rows (to - 1)) where
    pub round_below : round < above
    round_below = omega (arith, before_first above rows rising eights (to - 1) (omega arith), is)

    pub round_from : low ≤ round
    round_from =
        omega (arith, from_first low rows rising eights (to - 1) (omega arith) (omega (arith, to_within)), is)

    under : (m : ℕ) → round < m → m ≤ above → to ≡ below (round_key m) rows
    under m p q =
        ⊎_elim
        (λ t.
        absurd (
        omega (arith, from_first m rows rising eights (to - 1) (omega (arith, t.1)) (omega (arith, to_within)), is)
        ))
        (λ f. omega (arith, f.1, not_above m q))
        (leb_cases (suc (below (round_key m) rows)) to)

    pub down_round : down_to low above rows ≡ by_round round rows ++ down_to low round rows
    down_round =
        down_gap low rows (suc round) above (omega (arith, round_from)) (omega (arith, round_below))
        (λ m p q. no_rows m (under m (omega arith) (omega arith)) (under (suc m) (omega arith) (omega arith)))
        ∙ down_next low rows round round_from

    module _ {from : ℕ} (begins : from ≡ below (round_key round) rows) where
      pub from_below : from < to
      from_below =
          ⊎_elim
          (λ t. t.1)
          (λ f. absurd (omega (arith, before_first round rows rising eights (to - 1) (omega (arith, f.1)), is)))
          (leb_cases (suc from) to)

      pub part_round : take (to - from) (drop from rows) ≡ by_round round rows
      part_round = between_is rows from to ∙ sym (round_rows round begins (under (suc round) (omega arith) (omega (arith, round_below))))
