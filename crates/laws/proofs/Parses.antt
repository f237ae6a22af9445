-- Laws of parsers by position. Assumes nothing.
use mathlib.Core.Path.{◌≡◌, refl, sym, ap, ◌∙◌}
use mathlib.Core.Bool.{Bool, true, false}
use mathlib.Core.List.{List, [], ◌∷◌, ◌++◌, append-nil, append_assoc}
use mathlib.Core.Logic.{inl, inr}
use mathlib.Core.Option.{Option, none, some}
use Prim.Native.Nat.{ℕ, zero, suc, ◌+◌, ◌-◌, ◌*◌, ◌≤◌, ◌<◌}
use native.Mathlib.Nat.{mul-zero, mul-one, mul-suc, mul-add}
use native.Mathlib.Numerals.{sub-one}
use native.Mathlib.Omega.{arith}
use borrow.Author.Tests.{le-leb, lt-leb}
use lib.ListN.{length, take, get_or}
use lib.Seq.{take-suc}
use Rattle.laws.specs.Pick.{pick}
use Rattle.laws.specs.Bytes.{bytes_at, of_le}
use Rattle.laws.specs.Parse.{Res, bad, got, Parser, then, raw, number, many, joined, answer}
use Rattle.laws.proofs.Tests.{leb_cases}

-- bytes and numbers

pub raw_got : (n : ℕ) (s : List ℕ) (p : ℕ) → p + n ≤ length s → raw n s p ≡ got (bytes_at s p n) (p + n)
unfolding raw pick
raw_got n s p h = rw (le-leb (p + n) (length s) h)

pub raw_bad : (n : ℕ) (s : List ℕ) (p : ℕ) → length s < p + n → raw n s p ≡ bad
unfolding raw pick
raw_bad n s p h = rw (lt-leb (p + n) (length s) h)

pub number_got : (w : ℕ) (s : List ℕ) (p : ℕ) → p + w ≤ length s → number w s p ≡ got (of_le (bytes_at s p w)) (p + w)
unfolding number then
number_got w s p h = rw (raw_got w s p h)

pub number_bad : (w : ℕ) (s : List ℕ) (p : ℕ) → length s < p + w → number w s p ≡ bad
unfolding number then
number_bad w s p h = rw (raw_bad w s p h)

-- bytes that were found: where they stand
pub record Raw (n : ℕ) (s : List ℕ) (p : ℕ) (bytes : List ℕ) (e : ℕ) : Type 0 where
  pub these : bytes ≡ bytes_at s p n
  pub end : e ≡ p + n
  pub within : e ≤ length s

pub raw_found : (n : ℕ) (s : List ℕ) (p : ℕ) {bytes : List ℕ} {e : ℕ} → raw n s p ≡ got bytes e → Raw n s p bytes e
raw_found n s p {bytes} {e} h =
    elim (leb_cases (p + n) (length s)) [
      | inl y ↦
          let at : got (bytes_at s p n) (p + n) ≡ got bytes e = sym (raw_got n s p y.1) ∙ h in
          let end : e ≡ p + n = cc in
          record { these = cc; end = end; within = omega (arith, y.1) }
      | inr m ↦
          let never : bad ≡ got bytes e = sym (raw_bad n s p m.1) ∙ h in
          let z : ◌≡◌ {A = ℕ} 0 1 = cc in
          absurd (omega arith)
    ]

-- a number that was found: where it ends
pub record Counted (w : ℕ) (s : List ℕ) (p : ℕ) (e : ℕ) : Type 0 where
  pub end : e ≡ p + w
  pub within : e ≤ length s

pub number_found : (w : ℕ) (s : List ℕ) (p : ℕ) {x e : ℕ} → number w s p ≡ got x e → Counted w s p e
number_found w s p {x} {e} h =
    elim (leb_cases (p + w) (length s)) [
      | inl y ↦
          let at : got (of_le (bytes_at s p w)) (p + w) ≡ got x e = sym (number_got w s p y.1) ∙ h in
          let end : e ≡ p + w = cc in
          record { end = end; within = omega (arith, y.1) }
      | inr m ↦
          let never : bad ≡ got x e = sym (number_bad w s p m.1) ∙ h in
          let z : ◌≡◌ {A = ℕ} 0 1 = cc in
          absurd (omega arith)
    ]

-- what a parser finds, told from what a decoder answers

never : {A : Type 0} {a : A} {e : ℕ} → bad ≡ got a e → ⊥
never h = let z : ◌≡◌ {A = ℕ} 0 1 = cc in omega arith

pub got_value : {A : Type 0} {a b : A} {e f : ℕ} → got a e ≡ got b f → a ≡ b
got_value h = cc

-- `back` reads an answer back
pub found : {A B : Type 0} {refused : B} {taken : A → ℕ → B} (back : B → Res A) → back refused ≡ bad
    → ((a : A) (e : ℕ) → back (taken a e) ≡ got a e) → (x : Res A) {r t : B} → r ≡ answer refused taken x → r ≡ t → x ≡ back t
unfolding answer
found back n g bad h e = sym n ∙ ap back (sym h ∙ e)
found back n g (got a f) h e = sym (g a f) ∙ ap back (sym h ∙ e)

-- a value behind a flag
abbrev pub flagged : {A : Type 0} → Bool → A → ℕ → Res A
flagged true a e = got a e
flagged false a e = bad

-- a record's flag, by the test of it, says whether there is a value
pub found_ok : {A B : Type 0} (refused : B) (taken : A → ℕ → B) (ok : B → Bool) (value : B → A) (end : B → ℕ)
    → flagged (ok refused) (value refused) (end refused) ≡ bad
    → ((a : A) (e : ℕ) → flagged (ok (taken a e)) (value (taken a e)) (end (taken a e)) ≡ got a e)
    → (x : Res A) {r : B} {t : Bool} → r ≡ answer refused taken x → ok r ≡ t → x ≡ flagged t (value r) (end r)
found_ok {A} {B} refused taken ok value end n g x {r} {t} h e =
    found (λ (r : B). flagged (ok r) (value r) (end r)) n g x h refl ∙ ap (λ (t : Bool). flagged t (value r) (end r)) e

-- the same where the answer does not hold the value
module _ {A B : Type 0} (refused : B) (taken : A → ℕ → B) (ok : B → Bool) where
  pub found_none : ((a : A) (e : ℕ) → ok (taken a e) ≡ true) → (x : Res A) {r : B} → r ≡ answer refused taken x → ok r ≡ false → x ≡ bad
  unfolding answer
  found_none g bad h t = refl
  found_none g (got a e) h t =
      let f : true ≡ false = sym (g a e) ∙ ap ok (sym h) ∙ t in
      let z : ◌≡◌ {A = ℕ} 0 1 = cc in
      absurd (omega arith)

  pub found_some : ok refused ≡ false → (end : B → ℕ) → ((a : A) (e : ℕ) → end (taken a e) ≡ e) → (x : Res A) {r : B} → r ≡ answer refused taken x
      → ok r ≡ true → (a : A) × (x ≡ got a (end r)) × (r ≡ taken a (end r))
  unfolding answer
  found_some n end g bad h t =
      let f : false ≡ true = sym n ∙ ap ok (sym h) ∙ t in
      let z : ◌≡◌ {A = ℕ} 0 1 = cc in
      absurd (omega arith)
  found_some n end g (got a e) h t =
      let at : e ≡ _ = sym (g a e) ∙ ap end (sym h) in
      (a, ap (got a) at, h ∙ ap (taken a) at)

-- an answer made of another one
pub answered : {A B C : Type 0} (refused : B) (taken : A → ℕ → B) (none' : C) (some' : A → ℕ → C) (ok : B → Bool) → ok refused ≡ false
    → (F : B → C) → ((a : A) (e : ℕ) → F (taken a e) ≡ some' a e)
    → (x : Res A) {r : B} → r ≡ answer refused taken x → ok r ≡ true → F r ≡ answer none' some' x
unfolding answer
answered refused taken none' some' ok n F g bad h t =
    let f : false ≡ true = sym n ∙ ap ok (sym h) ∙ t in
    let z : ◌≡◌ {A = ℕ} 0 1 = cc in
    absurd (omega arith)
answered refused taken none' some' ok n F g (got a e) h t = ap F h ∙ g a e

-- two parsers in a row
pub then_found : {A B : Type 0} (x : Res A) {k : A → ℕ → Res B} {b : B} {e : ℕ} → then x k ≡ got b e
    → (a : A) × (f : ℕ) × (x ≡ got a f) × (k a f ≡ got b e)
unfolding then
then_found bad h = absurd (never h)
then_found (got a f) h = (a, f, refl, h)

pub then_then : {A B C : Type 0} (x : Res A) (f : A → ℕ → Res B) (g : B → ℕ → Res C) → then (then x f) g ≡ then x (λ a e. then (f a e) g)
unfolding then
then_then bad f g = refl
then_then (got a e) f g = refl

-- elements in a row

module _ {A : Type 0} (f : Parser A) (s : List ℕ) where
  pub many_bad : (n p : ℕ) → 0 < n → f s p ≡ bad → many f n s p ≡ bad
  unfolding many then
  many_bad zero p h b = absurd (omega arith)
  many_bad (suc n) p h b = rw b

  pub many_next : (n p : ℕ) {x : A} {q : ℕ} → 0 < n → f s p ≡ got x q
      → many f n s p ≡ then (many f (n - 1) s q) (λ xs e. got (x ∷ xs) e)
  unfolding many then
  many_next zero p h g = absurd (omega arith)
  many_next (suc n) p h g = rw (g, sub-one (suc n))

  -- the first of some elements, and the others
  pub many_cons : (n p : ℕ) {xs : List A} {e : ℕ} → many f (suc n) s p ≡ got xs e
      → (x : A) × (q : ℕ) × (ys : List A) × (f s p ≡ got x q) × (many f n s q ≡ got ys e) × (xs ≡ x ∷ ys)
  unfolding many
  many_cons n p {xs} {e} h =
      let a = then_found (f s p) h in
      let b = then_found (many f n s a.1) a.3 in
      let c : got (a.0 ∷ b.0) b.1 ≡ got xs e = b.3 in
      let at : b.1 ≡ e = cc in
      let these : xs ≡ a.0 ∷ b.0 = cc in
      (a.0, a.1, b.0, a.2, b.2 ∙ ap (got b.0) at, these)

  many_none : (p : ℕ) {xs : List A} {e : ℕ} → many f zero s p ≡ got xs e → (xs ≡ []) × (e ≡ p)
  unfolding many
  many_none p {xs} {e} h =
      let g : got [] p ≡ got xs e = h in
      (cc, cc)

  pub many_length : (n p : ℕ) {xs : List A} {e : ℕ} → many f n s p ≡ got xs e → length xs ≡ n
  many_length zero p h = ap length (many_none p h).0
  many_length (suc n) p h =
      let m = many_cons n p h in
      ap length m.5 ∙ ap suc (many_length n m.1 m.4)

  -- elements of one width
  module _ (w : ℕ) (wide : (p : ℕ) (x : A) (q : ℕ) → f s p ≡ got x q → q ≡ p + w) where
    pub many_width : (n p : ℕ) {xs : List A} {e : ℕ} → many f n s p ≡ got xs e → e ≡ p + w * n
    many_width zero p h = omega (arith, (many_none p h).1, mul-zero w)
    many_width (suc n) p h =
        let m = many_cons n p h in
        omega (arith, wide p m.0 m.1 m.3, many_width n m.1 m.4, mul-suc w n)

    -- the element at i stands i widths on
    pub many_at : (i n p : ℕ) {xs : List A} {e : ℕ} → many f n s p ≡ got xs e → (d : A) → i < n
        → f s (p + w * i) ≡ got (get_or xs i d) (p + w * (i + 1))
    many_at i zero p h d l = absurd (omega arith)
    many_at zero (suc n) p h d l =
        let m = many_cons n p h in
        let here : p + w * 0 ≡ p = omega (arith, mul-zero w) in
        let there : m.1 ≡ p + w * (0 + 1) = omega (arith, wide p m.0 m.1 m.3, mul-one w) in
        ap (f s) here
        ∙ m.3
        ∙ ap (got m.0) there
        ∙ ap (λ (l : List A). got (get_or l 0 d) (p + w * (0 + 1))) (sym m.5)
    many_at (suc i) (suc n) p h d l =
        let m = many_cons n p h in
        let end : m.1 ≡ p + w = wide p m.0 m.1 m.3 in
        let here : m.1 + w * i ≡ p + w * suc i = omega (arith, mul-suc w i) in
        let there : m.1 + w * (i + 1) ≡ p + w * (suc i + 1) = omega (arith, mul-add w i 1, mul-add w (suc i) 1, mul-suc w i, mul-one w) in
        ap (f s) (sym here)
        ∙ many_at i n m.1 m.4 d (omega arith)
        ∙ ap (got (get_or m.2 i d)) there
        ∙ ap (λ (l : List A). got (get_or l (suc i) d) (p + w * (suc i + 1))) (sym m.5)

-- A loop that passes elements in a row, one by one, and keeps no value.

-- where a value ends
end_of : {A : Type 0} → Res A → Option ℕ
end_of bad = none
end_of (got a e) = some e

end_cons : {A : Type 0} (x : A) (r : Res (List A)) → end_of (then r (λ xs e. got (x ∷ xs) e)) ≡ end_of r
unfolding then end_of
end_cons x bad = refl
end_cons x (got xs e) = refl

end_bad : {A : Type 0} (r : Res A) → end_of r ≡ none → r ≡ bad
unfolding end_of
end_bad bad h = refl
end_bad (got a e) h = let z : ◌≡◌ {A = ℕ} 0 1 = cc in absurd (omega arith)

end_got : {A : Type 0} (r : Res A) {e : ℕ} → end_of r ≡ some e → (a : A) × (r ≡ got a e)
unfolding end_of
end_got bad h = let z : ◌≡◌ {A = ℕ} 0 1 = cc in absurd (omega arith)
end_got (got a e) h = (a, cc)

-- the elements that are left, from where the next one begins, end where all n end
pub record Passing {A : Type 0} (f : Parser A) (s : List ℕ) (n p left at : ℕ) : Type 0 where
  same : end_of (many f n s p) ≡ end_of (many f left s at)

pub start : {A : Type 0} (f : Parser A) (s : List ℕ) (n p : ℕ) → Passing f s n p n p
start f s n p = record { same = refl }

module _ {A : Type 0} {f : Parser A} {s : List ℕ} {n p left at : ℕ} (h : Passing f s n p left at) where
  pub next : 0 < left → {x : A} {q : ℕ} → f s at ≡ got x q → Passing f s n p (left - 1) q
  next l {x} {q} g = record { same = h.same ∙ ap end_of (many_next f s left at l g) ∙ end_cons x (many f (left - 1) s q) }

  pub stop : 0 < left → f s at ≡ bad → many f n s p ≡ bad
  unfolding end_of
  stop l b = end_bad (many f n s p) (h.same ∙ ap end_of (many_bad f s left at l b))

  pub done : left ≤ 0 → (xs : List A) × (many f n s p ≡ got xs at)
  unfolding end_of many
  done l =
      let none_left : left ≡ 0 = omega arith in
      end_got (many f n s p) (h.same ∙ ap (λ (k : ℕ). end_of (many f k s at)) none_left)

-- elements in a row: the layouts of two lists, and of one element more

module _ {A : Type 0} (f : A → List ℕ) where
  pub joined_append : (a b : List A) → joined f (a ++ b) ≡ joined f a ++ joined f b
  unfolding joined
  joined_append [] b = refl
  joined_append (x ∷ a) b = ap (λ (l : List ℕ). f x ++ l) (joined_append a b) ∙ sym (append_assoc (f x) (joined f a) (joined f b))

  pub joined_next : (l : List A) (i : ℕ) (d : A) → i < length l → joined f (take (suc i) l) ≡ joined f (take i l) ++ f (get_or l i d)
  unfolding joined
  joined_next l i d h =
      ap (joined f) (take-suc l i d h)
      ∙ joined_append (take i l) (get_or l i d ∷ [])
      ∙ ap (λ (r : List ℕ). joined f (take i l) ++ r) (append-nil (f (get_or l i d)))
