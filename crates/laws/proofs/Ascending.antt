-- Lists in which each element stands below the next, in any transitive order. Assumes nothing.
use mathlib.Core.Path.{◌≡◌, refl, sym, subst, ◌∙◌}
use mathlib.Core.List.Memᴰ
use mathlib.Core.List.{List, [], ◌∷◌, Memᴰ}
use mathlib.Core.Logic.{⊎_elim}
use Prim.Native.Nat.{ℕ, zero, suc, ◌<◌}
use native.Mathlib.Nat.{not-suc-le-zero, le_of_suc-le-suc}
use native.Mathlib.Omega.{arith}
use lib.ListN.{length, get_or}

-- the element at an index is in the list
get_or_in : {A : Type 0} (s : List A) (i : ℕ) (d : A) → i < length s → Memᴰ (get_or s i d) s
get_or_in [] i d h = absurd (not-suc-le-zero h)
get_or_in (x ∷ s) zero d h = Memᴰ.head refl
get_or_in (x ∷ s) (suc i) d h = Memᴰ.tail (get_or_in s i d (le_of_suc-le-suc h))

module _ {A : Type 0} (Under : A → A → Type 0) where
  -- the first of the list, if there is one, is above x
  abbrev pub LeadsBy : A → List A → Type 0
  LeadsBy x [] = Unit
  LeadsBy x (y ∷ rest) = Under x y

  -- each is below the next
  abbrev pub AscendingBy : List A → Type 0
  AscendingBy [] = Unit
  AscendingBy (x ∷ rest) = LeadsBy x rest × AscendingBy rest

  -- a list in which each is below all behind it
  pub ascending_of : (d : A) (s : List A) → ((i j : ℕ) → i < j → j < length s → Under (get_or s i d) (get_or s j d)) → AscendingBy s
  ascending_of d [] f = tt
  ascending_of d (x ∷ []) f = (tt, tt)
  ascending_of d (x ∷ y ∷ s) f =
      (f 0 1 (omega arith) (omega arith), ascending_of d (y ∷ s) (λ i j h k. f (suc i) (suc j) (omega arith) (omega arith)))

  module _ (trans : (x y z : A) → Under x y → Under y z → Under x z) where
    -- all that stands behind an element is above it
    behind_above : (x z : A) (s : List A) → LeadsBy x s → AscendingBy s → Memᴰ z s → Under x z
    behind_above x z [] l a m = absurd (Memᴰ.not-nil m)
    behind_above x z (y ∷ s) l a m =
        ⊎_elim
        (λ e. subst (Under x) (sym e) l)
        (λ n. trans x y z l (behind_above y z s a.0 a.1 n))
        (Memᴰ.cases_cons m)

    pub ascending_at : (d : A) (s : List A) → AscendingBy s → (i j : ℕ) → i < j → j < length s → Under (get_or s i d) (get_or s j d)
    ascending_at d [] a i j h k = absurd (not-suc-le-zero k)
    ascending_at d (x ∷ s) a i zero h k = absurd (not-suc-le-zero h)
    ascending_at d (x ∷ s) a zero (suc j) h k =
        behind_above x (get_or s j d) s a.0 a.1 (get_or_in s j d (le_of_suc-le-suc k))
    ascending_at d (x ∷ s) a (suc i) (suc j) h k = ascending_at d s a.1 i j (le_of_suc-le-suc h) (le_of_suc-le-suc k)

    module _ (irreflexive : (x : A) → Under x x → ⊥) where
      apart : (x z : A) → Under x z → z ≡ x → ⊥
      apart x z h e = irreflexive x (subst (Under x) e h)

      -- ascending lists with the same members are equal
      pub ascending_unique : (s t : List A) → AscendingBy s → AscendingBy t → ((z : A) → Memᴰ z s → Memᴰ z t)
          → ((z : A) → Memᴰ z t → Memᴰ z s) → s ≡ t
      ascending_unique [] [] a b f g = refl
      ascending_unique [] (y ∷ t) a b f g = absurd (Memᴰ.not-nil (g y (Memᴰ.head refl)))
      ascending_unique (x ∷ s) [] a b f g = absurd (Memᴰ.not-nil (f x (Memᴰ.head refl)))
      ascending_unique (x ∷ s) (y ∷ t) a b f g =
          let same : x ≡ y =
          ⊎_elim
          (λ e. e)
          (λ m.
          ⊎_elim
          (λ e. sym e)
          (λ n.
          absurd
          (irreflexive x (trans x y x (behind_above x y s a.0 a.1 n) (behind_above y x t b.0 b.1 m))))
          (Memᴰ.cases_cons (g y (Memᴰ.head refl))))
          (Memᴰ.cases_cons (f x (Memᴰ.head refl)))
          in
          let rest : s ≡ t =
          ascending_unique s t a.1 b.1
          (λ z m.
          ⊎_elim
          (λ e. absurd (apart x z (behind_above x z s a.0 a.1 m) (e ∙ sym same)))
          (λ n. n)
          (Memᴰ.cases_cons (f z (Memᴰ.tail m))))
          (λ z m.
          ⊎_elim
          (λ e. absurd (apart y z (behind_above y z t b.0 b.1 m) (e ∙ same)))
          (λ n. n)
          (Memᴰ.cases_cons (g z (Memᴰ.tail m))))
          in
          cc
