-- Laws of the check of a committee's size and the own authority. Assumes nothing.
use mathlib.Core.Path.{◌≡◌, refl}
use mathlib.Core.Bool.{Bool, true, false}
use Prim.Native.Nat.{ℕ}
use lib.Dec.{leb, ltb}
use Rattle.laws.specs.Pick.{pick}
use Rattle.refusal.specs.declared.Refusal.TheVariants.{Store}
use Rattle.refusal.specs.Tabled.{Tabled}
use Rattle.refusal.proofs.Numbers.{tabled}
use Rattle.committee.specs.Committee.{committee_check}

-- a test, and what is checked behind it
test_tabled : (t : Bool) (n : ℕ) → ((n ≡ 0 → ⊥) → Tabled n) → (pick t n 18 ≡ 0 → ⊥) → Tabled (pick t n 18)
unfolding pick
test_tabled true n behind h = behind h
test_tabled false n behind h = tabled Store

-- the check's number is 0 or of the table
pub committee_tabled : (size own : ℕ) → (committee_check size own ≡ 0 → ⊥) → Tabled (committee_check size own)
unfolding committee_check
committee_tabled size own =
    test_tabled (leb 1 size) _ (test_tabled (leb size 128) _ (test_tabled (ltb own size) 0 (λ z. absurd (z refl))))
