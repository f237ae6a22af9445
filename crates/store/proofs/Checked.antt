-- What the checks of a lent store and of a call let pass, and which number each gives. Assumes nothing.
use mathlib.Core.Path.{◌≡◌, refl, sym, ap, ◌∙◌}
use mathlib.Core.Bool.{Bool, true, false}
use mathlib.Core.List.{List}
use Prim.Native.Nat.{ℕ, zero, suc, ◌*◌, ◌/◌, ◌≤◌, ◌<◌}
use native.Mathlib.Omega.{arith}
use lib.Dec.{leb}
use lib.ListN.{length}
use borrow.Author.Tests.{leb-true, ltb-true, le-leb, lt-leb}
use Rattle.laws.specs.Pick.{pick}
use Rattle.wal_position.specs.Checks.{log_check, unless}
use Rattle.wal_position.proofs.Checks.{unless_passed, unless_refused, first_refused, second_decides}
use Rattle.rows.specs.Rows.{rows_of, ascendingb, Ascending}
use Rattle.rows.proofs.Ascending.{ascendingb_decides}
use Rattle.committee.specs.Committee.{committee_check}
use Rattle.std.proofs.Common.{Ok, Err}
use Rattle.refusal.specs.declared.Refusal.{Refusal}
use Rattle.refusal.specs.declared.Refusal.TheVariants.{Store}
use Rattle.refusal.specs.Refusals.{checked, refusal_of}
use Rattle.refusal.proofs.Numbers.{passed}
use Rattle.store.specs.declared.BlockStore.{BlockStore}
use Rattle.store.specs.declared.StoreView.{StoreView}
use Rattle.store.specs.Views.{view_check}
use Rattle.store.specs.Store.{indexed, authorities_below, store_check, call_check}

-- ---- What passes

pub record Checked (s : BlockStore) (index : List ℕ) : Type 0 where
  pub some : 1 ≤ s.committee_size
  pub most : s.committee_size ≤ 128
  pub own : s.authority < s.committee_size
  pub fits : 8 * s.rows ≤ length index
  pub ascends : Ascending (indexed s index)
  pub authorities : authorities_below s.committee_size (indexed s index) ≡ true

-- a test, and what is checked behind it
pick_passed : (t : Bool) {n : ℕ} → pick t n 18 ≡ 0 → (t ≡ true) × (n ≡ 0)
unfolding pick
pick_passed true e = (refl, e)
pick_passed false e = absurd (omega arith)

-- a check, and what is checked behind it
unless_zero : (n : ℕ) {m : ℕ} → unless n (λ (k : ℕ). k) m ≡ 0 → (n ≡ 0) × (m ≡ 0)
unfolding unless
unless_zero zero e = (refl, e)
unless_zero (suc n) e = absurd (omega arith)

pub store_checked : (s : BlockStore) (index : List ℕ) → store_check s index ≡ 0 → Checked s index
unfolding store_check committee_check indexed
store_checked s index e =
    let both = unless_zero (committee_check s.committee_size s.authority) e in
    let some = pick_passed _ both.0 in
    let most = pick_passed _ some.1 in
    let own = pick_passed _ most.1 in
    let fits = pick_passed _ both.1 in
    let ascends = pick_passed _ fits.1 in
    let authorities = pick_passed _ ascends.1 in
    record {
      some = leb-true _ _ some.0;
      most = leb-true _ _ most.0;
      own = ltb-true _ _ own.0;
      fits = omega (arith, leb-true s.rows (length index / 8) fits.0);
      ascends = (ascendingb_decides (rows_of s.rows index)).0 ascends.0;
      authorities = authorities.0;
    }

-- n is the number that the call's checks give
module _ (k used size : ℕ) (s : BlockStore) (index : List ℕ) (passes : call_check k used size s index ≡ 0) where
  both : (log_check k used size ≡ 0) × (store_check s index ≡ 0)
  unfolding call_check
  both = unless_zero (log_check k used size) passes

  pub call_log : log_check k used size ≡ 0
  call_log = both.0

  pub call_checked : Checked s index
  call_checked = store_checked s index both.1

-- the same, by what the checks answered
module _ (v : StoreView) (h : Ok tt ≡ checked (view_check v)) where
  pub view_passed : view_check v ≡ 0
  view_passed = passed (view_check v) h

  pub view_checked : Checked v.store v.index.now
  view_checked = call_checked v.log.exponent v.log.used (length v.log.image.now) v.store v.index.now view_passed

-- ---- The numbers

-- two tests, one behind the other or both at once
both_tests : (t u : Bool) → ◌≡◌ {A = ℕ} (pick t (pick u 0 18) 18) (pick (pick t u false) 0 18)
unfolding pick
both_tests true u = refl
both_tests false u = refl

module _ (s : BlockStore) (index : List ℕ) where
  pub committee_refused : (committee_check s.committee_size s.authority ≡ 0 → ⊥)
      → committee_check s.committee_size s.authority ≡ store_check s index
  unfolding store_check
  committee_refused n = sym (unless_refused (λ (m : ℕ). m) _ (committee_check s.committee_size s.authority) n)

  module _ (committee : committee_check s.committee_size s.authority ≡ 0) where
    goes_on : store_check s index
        ≡ pick (leb s.rows (length index / 8))
        (pick (ascendingb (rows_of s.rows index)) (pick (authorities_below s.committee_size (rows_of s.rows index)) 0 18) 18)
        18
    unfolding store_check indexed
    goes_on = unless_passed (λ (m : ℕ). m) _ (committee_check s.committee_size s.authority) committee

    pub rows_refused : length index / 8 < s.rows → 18 ≡ store_check s index
    unfolding pick
    rows_refused h = sym (goes_on ∙ rw (lt-leb s.rows (length index / 8) h))

    module _ (fits : s.rows ≤ length index / 8) where
      rows_tested : store_check s index
          ≡ pick (pick (ascendingb (rows_of s.rows index)) (authorities_below s.committee_size (rows_of s.rows index)) false) 0 18
      unfolding pick
      rows_tested =
          goes_on
          ∙ rw (le-leb s.rows (length index / 8) fits)
          (both_tests (ascendingb (rows_of s.rows index)) (authorities_below s.committee_size (rows_of s.rows index)))

      pub order_refused : pick (ascendingb (rows_of s.rows index)) (authorities_below s.committee_size (rows_of s.rows index)) false ≡ false
          → 18 ≡ store_check s index
      unfolding pick
      order_refused h = sym (rows_tested ∙ ap (λ (t : Bool). pick t 0 18) h)

      pub order_passed : pick (ascendingb (rows_of s.rows index)) (authorities_below s.committee_size (rows_of s.rows index)) false ≡ true
          → 0 ≡ store_check s index
      unfolding pick
      order_passed h = sym (rows_tested ∙ ap (λ (t : Bool). pick t 0 18) h)

      pub store_passed : ascendingb (rows_of s.rows index) ≡ true
          → authorities_below s.committee_size (rows_of s.rows index) ≡ true → 0 ≡ store_check s index
      unfolding pick
      store_passed ascends h = order_passed (rw (ascends, h))

module _ (k used size : ℕ) (s : BlockStore) (index : List ℕ) where
  pub log_refused : (log_check k used size ≡ 0 → ⊥) → log_check k used size ≡ call_check k used size s index
  unfolding call_check
  log_refused n = sym (unless_refused (λ (m : ℕ). m) (store_check s index) (log_check k used size) n)

  pub log_passed : log_check k used size ≡ 0 → store_check s index ≡ call_check k used size s index
  unfolding call_check
  log_passed e = sym (unless_passed (λ (m : ℕ). m) (store_check s index) (log_check k used size) e)

-- ---- The checks of a call, one after the other

abbrev log_number : StoreView → ℕ
log_number v = log_check v.log.exponent v.log.used (length v.log.image.now)

abbrev committee_number : StoreView → ℕ
committee_number v = committee_check v.store.committee_size v.store.authority

module _ (v : StoreView) where
  pub view_refused_log : {r : Refusal} → Err r ≡ checked (log_number v) → Err r ≡ checked (view_check v)
  unfolding call_check
  view_refused_log h = first_refused (log_number v) (store_check v.store v.index.now) h

  module _ (log : Ok tt ≡ checked (log_number v)) where
    store_decides : checked (store_check v.store v.index.now) ≡ checked (view_check v)
    unfolding call_check
    store_decides = second_decides (log_number v) (store_check v.store v.index.now) log

    pub view_refused_committee : {r : Refusal} → Err r ≡ checked (committee_number v) → Err r ≡ checked (view_check v)
    unfolding store_check
    view_refused_committee h = first_refused (committee_number v) _ h ∙ store_decides

    pub view_refused_rows : 18 ≡ store_check v.store v.index.now → Err Store ≡ checked (view_check v)
    unfolding checked refusal_of pick
    view_refused_rows h = ap checked h ∙ store_decides

    pub view_passes : 0 ≡ store_check v.store v.index.now → Ok tt ≡ checked (view_check v)
    unfolding checked
    view_passes h = ap checked h ∙ store_decides
