-- A test on two numbers, taken apart with what each answer says. Assumes nothing.
use mathlib.Core.Path.{◌≡◌, refl, sym, ◌∙◌}
use mathlib.Core.Bool.{Bool, true, false}
use mathlib.Core.Logic.{◌⊎◌, inl, inr}
use Prim.Native.Nat.{ℕ, ◌+◌, ◌-◌, ◌≤◌, ◌<◌}
use native.Mathlib.Omega.{arith}
use lib.Dec.{leb, eqb}
use borrow.Author.Tests.{leb-true, leb-false, eqb-true, eqb-false, le-leb, lt-leb}

bool_cases : (t : Bool) → (t ≡ true) ⊎ (t ≡ false)
bool_cases true = inl refl
bool_cases false = inr refl

pub leb_cases : (a b : ℕ) → ((leb a b ≡ true) × (a ≤ b)) ⊎ ((leb a b ≡ false) × (b < a))
leb_cases a b =
    elim (bool_cases (leb a b)) [ inl t ↦ inl (t, leb-true a b t) | inr f ↦ inr (f, leb-false a b f) ]

pub eqb_cases : (a b : ℕ) → ((eqb a b ≡ true) × (a ≡ b)) ⊎ ((eqb a b ≡ false) × (a ≡ b → ⊥))
eqb_cases a b =
    elim (bool_cases (eqb a b)) [ inl t ↦ inl (t, eqb-true a b t) | inr f ↦ inr (f, eqb-false a b f) ]

-- whether n elements fit behind the first a of l
pub leb_sub : (a n l : ℕ) → a ≤ l → leb n (l - a) ≡ leb (a + n) l
leb_sub a n l h =
    elim (leb_cases (a + n) l) [
      | inl y ↦ le-leb n (l - a) (omega (arith, y.1)) ∙ sym y.0
      | inr m ↦ lt-leb n (l - a) (omega (arith, m.1)) ∙ sym m.0
    ]
