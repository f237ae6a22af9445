-- The check 19, behind those of every call. Assumes nothing.
use mathlib.Core.Path.{◌≡◌, refl, sym, ap, ◌∙◌}
use mathlib.Core.Bool.{Bool, true, false}
use Prim.Native.Nat.{ℕ, zero, suc, ◌-◌, ◌^◌}
use lib.Dec.{eqb}
use borrow.Author.Tests.{eq-eqb, ne_eqb}
use Rattle.std.proofs.Common.{Ok, Err}
use Rattle.laws.specs.Pick.{pick}
use Rattle.refusal.specs.declared.Refusal.{Refusal}
use Rattle.refusal.specs.declared.Refusal.TheVariants.{AfterRound}
use Rattle.refusal.specs.Refusals.{checked, refusal_of}
use Rattle.refusal.specs.Tabled.{Tabled}
use Rattle.refusal.proofs.Numbers.{tabled}
use Rattle.wal_position.specs.Checks.{unless}
use Rattle.wal_position.proofs.Checks.{first_refused, second_decides}
use Rattle.store.specs.declared.StoreView.{StoreView}
use Rattle.store.specs.Views.{of_view, view_check}
use Rattle.store.proofs.Checked.{Checked, view_checked}
use Rattle.query.specs.Query.{Call, call_of, call_number}
use Rattle.lookup_after.specs.After.{after_check, after_number}

-- a check that passed, with another behind it
first_passed : (n m : ℕ) → Ok tt ≡ checked (unless n (λ (k : ℕ). k) m) → Ok tt ≡ checked n
unfolding checked unless
first_passed zero m h = refl
first_passed (suc n) m h = h

-- the checks 1, 2, 18 and then 19
module _ (v : StoreView) (after : ℕ) where
  abbrev number : ℕ
  number = after_number (of_view call_of v) after

  pub after_refused : {r : Refusal} → Err r ≡ checked (view_check v) → Err r ≡ checked number
  unfolding after_number
  after_refused h = first_refused (view_check v) (after_check after) h

  module _ (h : Ok tt ≡ checked (view_check v)) where
    last_decides : {m : ℕ} → m ≡ after_check after → checked m ≡ checked number
    unfolding after_number
    last_decides is = ap checked is ∙ second_decides (view_check v) (after_check after) h

    pub after_last : after ≡ 2 ^ 64 - 1 → Err AfterRound ≡ checked number
    unfolding after_check pick checked refusal_of
    after_last e = last_decides {m = 19} (sym (rw (eq-eqb after (2 ^ 64 - 1) e)))

    pub after_passed : (after ≡ 2 ^ 64 - 1 → ⊥) → Ok tt ≡ checked number
    unfolding after_check pick checked
    after_passed d = last_decides {m = 0} (sym (rw (ne_eqb after (2 ^ 64 - 1) d)))

  -- where they pass, so do the first three
  pub after_checked : Ok tt ≡ checked number → Checked v.store v.index.now
  unfolding after_number
  after_checked h = view_checked v (first_passed (view_check v) (after_check after) h)

-- the number of the check 19 is 0 or of document 01's table, and so is that of all four where that of the first three is
last_tabled : (after : ℕ) → (after_check after ≡ 0 → ⊥) → Tabled (after_check after)
unfolding after_check pick
last_tabled after h = by (eqb after (2 ^ 64 - 1)) h
  where
    by : (t : Bool) → (◌≡◌ {A = ℕ} (pick t 19 0) 0 → ⊥) → Tabled (pick t 19 0)
    by true h = tabled AfterRound
    by false h = absurd (h refl)

pub after_tabled : (c : Call) (after : ℕ) → ((call_number c ≡ 0 → ⊥) → Tabled (call_number c))
    → (after_number c after ≡ 0 → ⊥) → Tabled (after_number c after)
unfolding after_number unless
after_tabled c after = by (call_number c)
  where
    by : (n : ℕ) → ((n ≡ 0 → ⊥) → Tabled n) → (unless n (λ (k : ℕ). k) (after_check after) ≡ 0 → ⊥) → Tabled (unless n (λ (k : ℕ). k) (after_check after))
    by zero first h = last_tabled after h
    by (suc n) first h = first h
