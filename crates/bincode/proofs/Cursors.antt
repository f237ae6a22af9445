-- The steps of a cursor give the elements of the list, one after the other. Assumes nothing.
use mathlib.Core.Path.{◌≡◌, sym, ap, ◌∙◌}
use mathlib.Core.Bool.{true, false}
use mathlib.Core.List.{List, ◌∷◌}
use mathlib.Core.Logic.{◌⊎◌, inl, inr}
use Prim.Native.Nat.{ℕ, zero, suc, ◌-◌, ◌≤◌, ◌<◌}
use native.Mathlib.Omega.{arith}
use borrow.Author.Tests.{eq-eqb, ne_eqb}
use lib.Dec.{leb}
use lib.ListN.{get_or}
use Rattle.laws.specs.Pick.{pick}
use Rattle.laws.specs.Parse.{bad, got, Parser, answer, many}
use Rattle.laws.proofs.Tests.{leb_cases}
use Rattle.laws.proofs.Parses.{many_cons}
use Rattle.bincode.specs.declared.Cursor.{Cursor}
use Rattle.bincode.specs.Cursors.{next_element, past, after}

module _ {A : Type 0} (f : Parser A) (s : List ℕ) where
  pub next_none : (c : Cursor) → c.left ≡ 0 → next_element f s c ≡ bad
  unfolding next_element pick
  next_none c z = rw (eq-eqb c.left 0 z)

  pub next_some : (c : Cursor) → (c.left ≡ 0 → ⊥) → next_element f s c ≡ f s c.at
  unfolding next_element pick
  next_some c nz = rw (ne_eqb c.left 0 nz)

  -- a cursor over the elements of a list: the next one, the cursor behind it, and the elements that are left
  pub record Step (c : Cursor) (xs : List A) (e : ℕ) : Type 0 where
    pub first : A
    pub end : ℕ
    pub others : List A
    pub found : next_element f s c ≡ got first end
    pub rest : many f (past c end).left s (past c end).at ≡ got others e
    pub list : xs ≡ first ∷ others

  pub step : (c : Cursor) {xs : List A} {e : ℕ} → many f c.left s c.at ≡ got xs e → 0 < c.left → Step c xs e
  step c {xs} {e} h l =
      let one : c.left ≡ suc (c.left - 1) = omega arith in
      let m = many_cons f s (c.left - 1) c.at (ap (λ (n : ℕ). many f n s c.at) (sym one) ∙ h) in
      record {
        first = m.0;
        end = m.1;
        others = m.2;
        found = next_some c (λ z. omega arith) ∙ m.3;
        rest = m.4;
        list = m.5;
      }

  -- the i-th step gives the i-th element
  pub step_at : (i : ℕ) (c : Cursor) {xs : List A} {e : ℕ} → many f c.left s c.at ≡ got xs e → (d : A) → i < c.left
      → (q : ℕ) × (next_element f s (after f s i c) ≡ got (get_or xs i d) q)
  unfolding after answer
  step_at zero c {xs} h d l =
      let t = step c h l in
      (t.end, t.found ∙ ap (λ (ys : List A). got (get_or ys 0 d) t.end) (sym t.list))
  step_at (suc i) c {xs} h d l =
      let t = step c h (omega arith) in
      let r = step_at i (past c t.end) t.rest d (omega arith) in
      (r.0, rw t.found (r.1 ∙ ap (λ (ys : List A). got (get_or ys (suc i) d) r.0) (sym t.list)))

  -- and from the last on there is none
  pub step_past : (n : ℕ) (c : Cursor) {xs : List A} {e : ℕ} → many f c.left s c.at ≡ got xs e → c.left ≤ n
      → next_element f s (after f s n c) ≡ bad
  unfolding after answer
  step_past zero c h l = next_none c (omega arith)
  step_past (suc n) c {xs} {e} h l = from (λ d ys g m. step_past n d {xs = ys} {e = e} g m) (leb_cases c.left 0)
    where
      from : ((d : Cursor) (ys : List A) → many f d.left s d.at ≡ got ys e → d.left ≤ n → next_element f s (after f s n d) ≡ bad)
          → ((leb c.left 0 ≡ true) × (c.left ≤ 0)) ⊎ ((leb c.left 0 ≡ false) × (0 < c.left)) → next_element f s (after f s (suc n) c) ≡ bad
      from later (inl z) = let none : next_element f s c ≡ bad = next_none c (omega (arith, z.1)) in rw none none
      from later (inr m) =
          let t = step c h m.1 in
          rw t.found (later (past c t.end) t.others t.rest (omega arith))
