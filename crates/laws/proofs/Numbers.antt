-- Laws of consecutive numbers. Assumes nothing.
use mathlib.Core.Path.{◌≡◌, ap, sym, ◌∙◌}
use mathlib.Core.List.Memᴰ
use mathlib.Core.List.{map, Memᴰ}
use mathlib.Core.Logic.{⊎_elim}
use Prim.Native.Nat.{ℕ, zero, suc, ◌+◌, ◌≤◌, ◌<◌}
use native.Mathlib.Nat.{add-zero, add-suc, suc-add}
use native.Mathlib.Omega.{arith}
use native.Mathlib.Decide.{dec_lt}
use lib.ListN.{get_or}
use Rattle.laws.specs.Numbers.{numbers_from}

-- the element at i of what a function makes of them
pub get_or_numbers : {A : Type 0} (f : ℕ → A) (m n i : ℕ) (d : A) → i < n → get_or (map f (numbers_from m n)) i d ≡ f (m + i)
unfolding numbers_from
get_or_numbers f m zero i d h = absurd (omega arith)
get_or_numbers f m (suc n) zero d h = ap f (sym (add-zero m))
get_or_numbers f m (suc n) (suc i) d h = get_or_numbers f (suc m) n i d (omega arith) ∙ ap f (suc-add m i ∙ sym (add-suc m i))

-- which numbers they are
pub in_numbers : (m n b : ℕ) → m ≤ b → b < m + n → Memᴰ b (numbers_from m n)
unfolding numbers_from
in_numbers m zero b h k = absurd (omega arith)
in_numbers m (suc n) b h k =
    elim (dec_lt m b) [
      | yes l ↦ Memᴰ.tail (in_numbers (suc m) n b l (omega arith))
      | no l ↦ let e : b ≡ m = omega arith in Memᴰ.head e
    ]

pub below_numbers : (m n : ℕ) {b : ℕ} → Memᴰ b (numbers_from m n) → b < m + n
unfolding numbers_from
below_numbers m zero h = absurd (Memᴰ.not-nil h)
below_numbers m (suc n) h =
    ⊎_elim (λ e. omega (arith, e)) (λ k. omega (arith, below_numbers (suc m) n k)) (Memᴰ.cases_cons h)
