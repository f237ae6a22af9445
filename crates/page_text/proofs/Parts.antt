-- Laws of `parts`. Assumes nothing.
use mathlib.Core.Path.{◌≡◌, refl, sym, ap, ◌∙◌}
use mathlib.Core.Logic.{inl, inr}
use mathlib.Core.List.{List, [], ◌∷◌, map}
use Prim.Native.Nat.{ℕ, zero, suc, ◌≤◌, ◌<◌}
use native.Mathlib.Omega.{arith}
use lib.ListN.{length, take, drop, length-drop}
use borrow.Author.Tests.{le-leb, lt-leb}
use Rattle.laws.specs.Pick.{pick}
use Rattle.laws.proofs.Tests.{leb_cases}
use Rattle.page_text.specs.Page.{parts_by, parts}

module _ {A : Type 0} (n : ℕ) (some : 0 < n) where
  by_last : (fuel : ℕ) (l : List A) → length l ≤ n → parts_by fuel n l ≡ l ∷ []
  unfolding parts_by pick
  by_last zero l h = refl
  by_last (suc fuel) l h = rw (le-leb (length l) n h)

  by_more : (fuel : ℕ) (l : List A) → n < length l → parts_by (suc fuel) n l ≡ take n l ∷ parts_by fuel n (drop n l)
  unfolding parts_by pick
  by_more fuel l h = rw (lt-leb (length l) n h)

  -- any number of divisions that is not below the length serves
  by_enough : (f g : ℕ) (l : List A) → length l ≤ f → length l ≤ g → parts_by f n l ≡ parts_by g n l
  by_enough zero g l h k = by_last zero l (omega arith) ∙ sym (by_last g l (omega arith))
  by_enough (suc f) zero l h k = by_last (suc f) l (omega arith) ∙ sym (by_last zero l (omega arith))
  by_enough (suc f) (suc g) l h k =
      elim (leb_cases (length l) n) [
        | inl y ↦ by_last (suc f) l y.1 ∙ sym (by_last (suc g) l y.1)
        | inr m ↦
            let shorter = length-drop n l in
            by_more f l m.1
            ∙ ap (λ (ps : List (List A)). take n l ∷ ps) (by_enough f g (drop n l) (omega (arith, m.1)) (omega (arith, m.1)))
            ∙ sym (by_more g l m.1)
      ]

  -- the equations of `parts`, without fuel
  pub parts_last : (l : List A) → length l ≤ n → parts n l ≡ l ∷ []
  unfolding parts
  parts_last l h = by_last (length l) l h

  pub parts_more : (l : List A) → n < length l → parts n l ≡ take n l ∷ parts n (drop n l)
  unfolding parts
  parts_more [] h = absurd (omega arith)
  parts_more (x ∷ l) h =
      let shorter = length-drop n (x ∷ l) in
      by_more (length l) (x ∷ l) h
      ∙ ap (λ (ps : List (List A)). take n (x ∷ l) ∷ ps)
      (by_enough (length l) (length (drop n (x ∷ l))) (drop n (x ∷ l)) (omega arith) (omega arith))

-- parts of what f gives
module _ {A B : Type 0} (f : A → B) where
  pub map_take : (n : ℕ) (l : List A) → take n (map f l) ≡ map f (take n l)
  map_take zero l = refl
  map_take (suc n) [] = refl
  map_take (suc n) (x ∷ l) = ap (λ (r : List B). f x ∷ r) (map_take n l)

  pub map_drop : (n : ℕ) (l : List A) → drop n (map f l) ≡ map f (drop n l)
  map_drop zero l = refl
  map_drop (suc n) [] = refl
  map_drop (suc n) (x ∷ l) = map_drop n l
