-- Laws of the order of keys, over lists of any length. Assumes nothing.
use mathlib.Core.Path.{◌≡◌, refl, sym, ap, ◌∙◌}
use mathlib.Core.List.{List, [], ◌∷◌}
use mathlib.Core.Logic.{◌⊎◌, inl, inr, ⊎_elim}
use Prim.Native.Nat.{ℕ, suc, ◌<◌}
use native.Mathlib.Omega.{arith}
use borrow.Author.Tests.{lt-ltb, le-ltb}
use Rattle.laws.specs.Pick.{pick}
use Rattle.laws.proofs.Tests.{leb_cases}
use Rattle.std.specs.declared.cmp.Ordering.{Ordering}
use Rattle.std.specs.declared.cmp.Ordering.TheVariants.{Less, Equal, Greater}
use Rattle.rows.specs.Rows.{choose, compared}

pub order_cases : (o : Ordering) → (o ≡ Less) ⊎ ((o ≡ Equal) ⊎ (o ≡ Greater))
order_cases Less = inl refl
order_cases Equal = inr (inl refl)
order_cases Greater = inr (inr refl)

-- the three orders differ
pub not_equal : Less ≡ Equal → ⊥
not_equal e = let z : ◌≡◌ {A = ℕ} 0 1 = cc in omega arith

pub not_above : Less ≡ Greater → ⊥
not_above e = let z : ◌≡◌ {A = ℕ} 0 1 = cc in omega arith

pub above_not_equal : Greater ≡ Equal → ⊥
above_not_equal e = let z : ◌≡◌ {A = ℕ} 0 1 = cc in omega arith

sides : (x y : ℕ) → (x < y) ⊎ ((x ≡ y) ⊎ (y < x))
sides x y =
    ⊎_elim
    (λ t. inl t.1)
    (λ f. ⊎_elim (λ t. inr (inr t.1)) (λ g. inr (inl (omega arith))) (leb_cases (suc y) x))
    (leb_cases (suc x) y)

-- the first words decide, unless they are the same
module _ (x y : ℕ) (a b : List ℕ) where
  pub first_below : x < y → compared (x ∷ a) (y ∷ b) ≡ Less
  unfolding compared pick
  first_below h = rw (lt-ltb x y h)

  pub first_above : y < x → compared (x ∷ a) (y ∷ b) ≡ Greater
  unfolding compared pick
  first_above h = rw (le-ltb x y (omega arith), lt-ltb y x h)

  pub first_same : x ≡ y → compared (x ∷ a) (y ∷ b) ≡ compared a b
  unfolding compared pick
  first_same e = rw (le-ltb x y (omega arith), le-ltb y x (omega arith))

  first_cases : compared (x ∷ a) (y ∷ b) ≡ Less → (x < y) ⊎ ((x ≡ y) × (compared a b ≡ Less))
  first_cases h =
      ⊎_elim
      (λ l. inl l)
      (⊎_elim (λ e. inr (e, sym (first_same e) ∙ h)) (λ g. absurd (not_above (sym h ∙ first_above g))))
      (sides x y)

pub compared_self : (a : List ℕ) → compared a a ≡ Equal
unfolding compared
compared_self [] = refl
compared_self (x ∷ a) = first_same x x a a refl ∙ compared_self a

-- the other way round
pub compared_swap : (a b : List ℕ) → compared b a ≡ choose (compared a b) Greater Equal Less
unfolding compared choose
compared_swap [] [] = refl
compared_swap [] (y ∷ b) = refl
compared_swap (x ∷ a) [] = refl
compared_swap (x ∷ a) (y ∷ b) =
    ⊎_elim
    (λ l. first_above y x b a l ∙ ap swapped (sym (first_below x y a b l)))
    (⊎_elim
    (λ e. first_same y x b a (sym e) ∙ compared_swap a b ∙ ap swapped (sym (first_same x y a b e)))
    (λ g. first_below y x b a g ∙ ap swapped (sym (first_above x y a b g))))
    (sides x y)
  where
    swapped : Ordering → Ordering
    swapped o = choose o Greater Equal Less

pub above_of : (a b : List ℕ) → compared a b ≡ Less → compared b a ≡ Greater
unfolding choose
above_of a b h = compared_swap a b ∙ ap (λ (o : Ordering). choose o Greater Equal Less) h

pub below_of : (a b : List ℕ) → compared a b ≡ Greater → compared b a ≡ Less
unfolding choose
below_of a b h = compared_swap a b ∙ ap (λ (o : Ordering). choose o Greater Equal Less) h

pub compared_equal : (a b : List ℕ) → compared a b ≡ Equal → a ≡ b
unfolding compared
compared_equal [] [] h = refl
compared_equal [] (y ∷ b) h = absurd (not_equal h)
compared_equal (x ∷ a) [] h = absurd (above_not_equal h)
compared_equal (x ∷ a) (y ∷ b) h =
    ⊎_elim
    (λ l. absurd (not_equal (sym (first_below x y a b l) ∙ h)))
    (⊎_elim
    (λ e. let t : a ≡ b = compared_equal a b (sym (first_same x y a b e) ∙ h) in cc)
    (λ g. absurd (above_not_equal (sym (first_above x y a b g) ∙ h))))
    (sides x y)

pub below_trans : (a b c : List ℕ) → compared a b ≡ Less → compared b c ≡ Less → compared a c ≡ Less
unfolding compared
below_trans [] [] c h g = g
below_trans [] (y ∷ b) [] h g = absurd (not_above (sym g))
below_trans [] (y ∷ b) (z ∷ c) h g = refl
below_trans (x ∷ a) [] c h g = absurd (not_above (sym h))
below_trans (x ∷ a) (y ∷ b) [] h g = absurd (not_above (sym g))
below_trans (x ∷ a) (y ∷ b) (z ∷ c) h g =
    ⊎_elim
    (λ l. ⊎_elim (λ m. first_below x z a c (omega arith)) (λ m. first_below x z a c (omega arith)) (first_cases y z b c g))
    (λ l.
    ⊎_elim
    (λ m. first_below x z a c (omega arith))
    (λ m. first_same x z a c (l.0 ∙ m.0) ∙ below_trans a b c l.1 m.1)
    (first_cases y z b c g))
    (first_cases x y a b h)

pub irreflexive : (a : List ℕ) → compared a a ≡ Less → ⊥
irreflexive a h = not_equal (sym h ∙ compared_self a)
