-- A test of one of some elements. Assumes nothing.
use mathlib.Core.Path.{◌≡◌, refl, ap, ap₂, ◌∙◌}
use mathlib.Core.Bool.{Bool, true, false}
use mathlib.Core.List.{List, [], ◌∷◌, ◌++◌}
use Rattle.laws.specs.Pick.{pick}
use Rattle.includes.specs.References.{any}

-- each element has the property
abbrev pub Each : {A : Type 0} → (A → Type 0) → List A → Type 0
Each P [] = Unit {0}
Each P (x ∷ xs) = P x × Each P xs

pub each_weaker : {A : Type 0} {P Q : A → Type 0} → ((x : A) → P x → Q x) → (xs : List A) → Each P xs → Each Q xs
each_weaker f [] h = tt
each_weaker f (x ∷ xs) h = (f x h.0, each_weaker f xs h.1)

pub each_append : {A : Type 0} (P : A → Type 0) (xs ys : List A) → Each P xs → Each P ys → Each P (xs ++ ys)
each_append P [] ys h g = g
each_append P (x ∷ xs) ys h g = (h.0, each_append P xs ys h.1 g)

or_assoc : (a b c : Bool) → pick a true (pick b true c) ≡ pick (pick a true b) true c
unfolding pick
or_assoc true b c = refl
or_assoc false b c = refl

module _ {A : Type 0} where
  pub any_append : (f : A → Bool) (a b : List A) → any f (a ++ b) ≡ pick (any f a) true (any f b)
  unfolding any pick
  any_append f [] b = refl
  any_append f (x ∷ a) b = ap (pick (f x) true) (any_append f a b) ∙ or_assoc (f x) (any f a) (any f b)

  -- tests that agree
  pub any_each : {P : A → Type 0} {f g : A → Bool} → ((x : A) → P x → f x ≡ g x) → (xs : List A) → Each P xs → any f xs ≡ any g xs
  unfolding any
  any_each same [] h = refl
  any_each same (x ∷ xs) h = ap₂ (λ (t u : Bool). pick t true u) (same x h.0) (any_each same xs h.1)

  pub any_same : {f g : A → Bool} → ((x : A) → f x ≡ g x) → (xs : List A) → any f xs ≡ any g xs
  unfolding any
  any_same same [] = refl
  any_same same (x ∷ xs) = ap₂ (λ (t u : Bool). pick t true u) (same x) (any_same same xs)

  pub any_never : (xs : List A) → any (λ x. false) xs ≡ false
  unfolding any pick
  any_never [] = refl
  any_never (x ∷ xs) = any_never xs

  -- either of two tests, and a test together with a fact
  pub any_or : (f g : A → Bool) (xs : List A) → any (λ x. pick (f x) true (g x)) xs ≡ pick (any f xs) true (any g xs)
  unfolding any pick
  any_or f g [] = refl
  any_or f g (x ∷ xs) = ap (pick (pick (f x) true (g x)) true) (any_or f g xs) ∙ by (f x) (g x) (any f xs)
    where
      by : (a b c : Bool) → pick (pick a true b) true (pick c true (any g xs)) ≡ pick (pick a true c) true (pick b true (any g xs))
      by true b c = refl
      by false true true = refl
      by false true false = refl
      by false false c = refl

  pub any_and : (f : A → Bool) (t : Bool) (xs : List A) → any (λ x. pick (f x) t false) xs ≡ pick (any f xs) t false
  unfolding any pick
  any_and f t [] = refl
  any_and f t (x ∷ xs) = ap (pick (pick (f x) t false) true) (any_and f t xs) ∙ by (f x) t (any f xs)
    where
      by : (a t b : Bool) → pick (pick a t false) true (pick b t false) ≡ pick (pick a true b) t false
      by true true b = refl
      by true false true = refl
      by true false false = refl
      by false t b = refl
