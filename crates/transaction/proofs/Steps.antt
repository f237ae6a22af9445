-- A loop that steps a cursor over elements: where it is after some of the steps. Assumes nothing.
use mathlib.Core.Path.{◌≡◌, refl, ap, ◌∙◌}
use mathlib.Core.List.{List}
use Prim.Native.Nat.{ℕ, zero, suc, ◌+◌, ◌-◌, ◌≤◌, ◌<◌}
use native.Mathlib.Numerals.{sub-one}
use native.Mathlib.Omega.{arith}
use Rattle.laws.specs.Parse.{bad, got, Parser, answer}
use Rattle.bincode.specs.declared.Cursor.{Cursor}
use Rattle.bincode.specs.Cursors.{next_element, past, after}

module _ {A : Type 0} (f : Parser A) (s : List ℕ) where
  after_none : (n : ℕ) (c : Cursor) → next_element f s c ≡ bad → after f s n c ≡ c
  unfolding after answer
  after_none zero c b = refl
  after_none (suc n) c b = rw b

  after_next : (n : ℕ) (c : Cursor) {x : A} {e : ℕ} → 0 < n → next_element f s c ≡ got x e → after f s n c ≡ after f s (n - 1) (past c e)
  unfolding after answer
  after_next zero c h g = absurd (omega arith)
  after_next (suc n) c h g = rw (g, sub-one (suc n))

  -- i of n steps are done, and the cursor is at c: the steps that are left end where all n do
  pub record Stepping (n : ℕ) (c₀ : Cursor) (i : ℕ) (c : Cursor) : Type 0 where
    pub within : i ≤ n
    same : after f s n c₀ ≡ after f s (n - i) c

  pub stepping_start : (n : ℕ) (c : Cursor) → Stepping n c 0 c
  stepping_start n c =
      let none : n ≡ n - 0 = omega arith in
      record { within = omega arith; same = ap (λ (m : ℕ). after f s m c) none }

  module _ {n : ℕ} {c₀ : Cursor} {i : ℕ} {c : Cursor} (h : Stepping n c₀ i c) where
    pub stepping_next : i < n → {x : A} {e : ℕ} → next_element f s c ≡ got x e → Stepping n c₀ (i + 1) (past c e)
    stepping_next more {x} {e} g =
        let one : n - i - 1 ≡ n - (i + 1) = omega arith in
        record {
          within = omega arith;
          same = h.same ∙ after_next (n - i) c (omega arith) g ∙ ap (λ (m : ℕ). after f s m (past c e)) one;
        }

    -- where there is no element, there is none behind the steps that are left
    pub stepping_none : next_element f s c ≡ bad → next_element f s (after f s n c₀) ≡ bad
    stepping_none b = ap (next_element f s) (h.same ∙ after_none (n - i) c b) ∙ b

    pub stepping_end : n ≤ i → after f s n c₀ ≡ c
    unfolding after
    stepping_end all =
        let none : n - i ≡ 0 = omega arith in
        h.same ∙ ap (λ (m : ℕ). after f s m c) none
