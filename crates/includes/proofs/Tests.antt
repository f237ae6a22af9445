-- What a choice between tests tells. Assumes nothing.
use mathlib.Core.Path.{◌≡◌, refl, sym}
use mathlib.Core.Bool.{Bool, true, false, true≢false}
use mathlib.Core.Logic.{◌⊎◌, inl, inr}
use Rattle.laws.specs.Pick.{pick}

pub both : (t : Bool) {u : Bool} → pick t u false ≡ true → (t ≡ true) × (u ≡ true)
unfolding pick
both true h = (refl, h)
both false h = absurd (true≢false (sym h))

pub both_hold : {t u : Bool} → t ≡ true → u ≡ true → pick t u false ≡ true
unfolding pick
both_hold p q = rw p q

pub either : (t : Bool) {u : Bool} → pick t true u ≡ true → (t ≡ true) ⊎ (u ≡ true)
unfolding pick
either true h = inl refl
either false h = inr h

pub first_holds : {t : Bool} (u : Bool) → t ≡ true → pick t true u ≡ true
unfolding pick
first_holds u p = rw p

pub second_holds : (t : Bool) {u : Bool} → u ≡ true → pick t true u ≡ true
unfolding pick
second_holds true p = refl
second_holds false p = p

pub or_false : (t : Bool) → pick t true false ≡ t
unfolding pick
or_false true = refl
or_false false = refl

pub and_false : (t : Bool) {u : Bool} → u ≡ false → pick t u false ≡ false
unfolding pick
and_false true e = e
and_false false e = refl
