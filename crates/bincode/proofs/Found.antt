-- What the answer of a decoder tells of the parser. Assumes nothing.
use mathlib.Core.Path.{◌≡◌, refl, sym, ap, ◌∙◌}
use mathlib.Core.Bool.{Bool, true, false}
use mathlib.Core.List.{List}
use Prim.Native.Nat.{ℕ, ◌+◌, ◌-◌, ◌≤◌}
use native.Mathlib.Omega.{arith}
use borrow.Author.Tests.{leb-true, leb-false, eq-eqb, ne_eqb}
use lib.Dec.{leb}
use lib.ListN.{length}
use Rattle.std.proofs.Common.{Some, None}
use Rattle.std.proofs.lemmas.Option.{some_pair_parts}
use Rattle.laws.specs.Bytes.{bytes_at, of_le}
use Rattle.laws.specs.Pick.{pick}
use Rattle.laws.specs.Parse.{Res, Parser, bad, got, answer, then, number}
use Rattle.laws.proofs.Written.{length_bytes_at}
use Rattle.laws.proofs.Parses.{number_got, number_bad}
use Rattle.bincode.specs.Bincode.{bool, option, byte_string, exactly}
use Rattle.bincode.specs.declared.Cursor.{Cursor}
use Rattle.bincode.specs.Cursors.{past}
use Rattle.bincode.specs.Answers.{decoded_as, decoded, option_as, list_answer, end_answer, next_answer}
use Rattle.bincode.proofs.Rules.{bool_end, bytes_found}

-- a decoder that answers None found nothing, and one that answers a value found one that it answers so
module _ {A B : Type 0} (f : A → ℕ → B) where
  pub told_none : (x : Res A) → None ≡ decoded_as f x → x ≡ bad
  unfolding answer
  told_none bad h = refl
  told_none (got a e) h = absurd (cc)

  pub told_as : (x : Res A) {b : B} {e : ℕ} → Some (b, e) ≡ decoded_as f x → (a : A) × (x ≡ got a e) × (b ≡ f a e)
  unfolding answer
  told_as bad h = absurd (cc)
  told_as (got a q) {b} {e} h =
      let same = some_pair_parts b (f a q) e q h in
      (a, ap (got a) (sym same.1), same.0 ∙ ap (f a) (sym same.1))

-- a value that a step g makes of one that was found, and a decoder k of what was answered
pub told_then : {A B C D : Type 0} (f : A → ℕ → B) (g : A → C) (h : C → ℕ → D) (k : B → D) (x : Res A)
    → ((a : A) (e : ℕ) → x ≡ got a e → k (f a e) ≡ h (g a) e)
    → {b : B} {e : ℕ} → Some (b, e) ≡ decoded_as f x → Some (k b, e) ≡ decoded_as h (then x (λ a q. got (g a) q))
unfolding answer then
told_then {D = D} f g h k x same {b} {e} found =
    let t = told_as f x found in
    rw t.1 (ap (λ (d : D). Some (d, e)) (ap k t.2 ∙ same t.0 e t.1))

-- the same of a value that is answered as it is
pub told : {A : Type 0} (x : Res A) {a : A} {e : ℕ} → Some (a, e) ≡ decoded x → x ≡ got a e
told x {a} {e} h = let t = told_as (λ v e. v) x h in t.1 ∙ ap (λ v. got v e) (sym t.2)

pub nothing : {A : Type 0} (x : Res A) → None ≡ decoded x → x ≡ bad
nothing x h = told_none (λ v e. v) x h

-- and of where elements end
module _ {A : Type 0} where
  pub end_none : (x : Res A) → None ≡ end_answer x → x ≡ bad
  unfolding answer
  end_none bad h = refl
  end_none (got a e) h = absurd (cc)

  pub end_told : (x : Res A) {e : ℕ} → Some e ≡ end_answer x → (a : A) × (x ≡ got a e)
  unfolding answer
  end_told bad h = absurd (cc)
  end_told (got a q) {e} h = let at : q ≡ e = cc in (a, ap (got a) at)

-- the answers of a decoder of w bytes, by the test that they are there
module _ (w : ℕ) (s : List ℕ) (p : ℕ) {there : Bool} (h : there ≡ leb (p + w) (length s)) where
  pub within : there ≡ true → p + w ≤ length s
  within t = leb-true (p + w) (length s) (sym h ∙ t)

  pub number_read : there ≡ true → {x : ℕ} → x ≡ of_le (bytes_at s p w) → Some (x, p + w) ≡ decoded (number w s p)
  unfolding answer
  number_read t {x} e = rw (number_got w s p (within t), e)

  pub number_short : there ≡ false → None ≡ decoded (number w s p)
  unfolding answer
  number_short f = rw (number_bad w s p (leb-false (p + w) (length s) (sym h ∙ f)))

-- the bytes of a byte string, by their place and by their end
pub bytes_placed : (s : List ℕ) (p : ℕ) (bytes : List ℕ) (e : ℕ) → byte_string s p ≡ got bytes e
    → ◌≡◌ {A = Cursor} (record { at = p + 8; left = length bytes }) (record { at = e - length bytes; left = length bytes })
bytes_placed s p bytes e h =
    let f = bytes_found s p h in
    let place : p + 8 ≡ e - length bytes = omega (arith, f.end) in
    ap (λ (n : ℕ). record { at = n; left = length bytes }) place

-- a byte string that must have k bytes, by the place of its bytes
module _ (s : List ℕ) (p : ℕ) {c : Cursor} {e : ℕ} (h : Some (c, e) ≡ list_answer p (byte_string s p)) where
  pub bytes_end : e ≡ c.at + c.left
  bytes_end =
      let b = told_as _ (byte_string s p) h in
      let f = bytes_found s p b.1 in
      let n : c.left ≡ length b.0 = ap (λ (r : Cursor). r.left) b.2 in
      let at : c.at ≡ p + 8 = ap (λ (r : Cursor). r.at) b.2 in
      omega (arith, f.end)

  pub bytes_within : e ≤ length s
  bytes_within = (bytes_found s p (told_as _ (byte_string s p) h).1).within

  module _ (k : ℕ) where
    pub exactly_other : (c.left ≡ k → ⊥) → exactly k s p ≡ bad
    unfolding exactly then pick
    exactly_other ne =
        let b = told_as _ (byte_string s p) h in
        let n : c.left ≡ length b.0 = ap (λ (r : Cursor). r.left) b.2 in
        rw (b.1, ne_eqb (length b.0) k (λ z. ne (n ∙ z)))

    pub exactly_got : c.left ≡ k → exactly k s p ≡ got (bytes_at s c.at k) e
    unfolding exactly then pick
    exactly_got eq =
        let b = told_as _ (byte_string s p) h in
        let n : length b.0 ≡ k = sym (ap (λ (r : Cursor). r.left) b.2) ∙ eq in
        let at : c.at ≡ p + 8 = ap (λ (r : Cursor). r.at) b.2 in
        let these : b.0 ≡ bytes_at s c.at k =
        (bytes_found s p b.1).these ∙ ap (λ (q : ℕ). bytes_at s q (length b.0)) (sym at) ∙ ap (bytes_at s c.at) n in
        rw (b.1, eq-eqb (length b.0) k n, these)

    -- they are k
    pub part_of : c.left ≡ k → e - c.at ≡ k
    part_of eq = omega (arith, bytes_end)

    pub part_length : c.left ≡ k → length (bytes_at s c.at k) ≡ k
    part_length eq = length_bytes_at s c.at k (omega (arith, bytes_end, bytes_within))

-- a step of a cursor that found its element
pub next_told : {A B : Type 0} (f : A → ℕ → B) (c : Cursor) (x : Res A) {y : Res A} {b : B} {e : ℕ} → y ≡ x → Some (b, e) ≡ decoded_as f x
    → Some (b, record { at = e; left = c.left - 1 }) ≡ next_answer f c y
unfolding answer
next_told {B = B} f c x {e = e} same h =
    let t = told_as f x h in
    rw (same, t.1) (ap (λ (v : B). Some (v, record { at = e; left = c.left - 1 })) t.2)

-- an option whose tag is there and whose value was found
pub option_told : {A B : Type 0} (f : ℕ → A → ℕ → B) (g : Parser A) (s : List ℕ) (p : ℕ) {there : Bool} {q : ℕ}
    → Some (there, q) ≡ decoded (bool s p) → there ≡ true → {b : B} {e : ℕ} → Some (b, e) ≡ decoded_as (f q) (g s q)
    → Some (Some b, e) ≡ decoded_as (option_as f p) (option g s p)
unfolding answer then pick option
option_told {A} {B} f g s p {there} {q} h y {b} {e} d =
    let tag : bool s p ≡ got there q = told (bool s p) h in
    let t = told_as (f q) (g s q) d in
    let at : q ≡ p + 1 = bool_end s p tag in
    rw (tag, y, t.1) (ap (λ (v : B). Some (Some v, e)) (t.2 ∙ ap (λ (n : ℕ). f n t.0 e) at))

-- what a step of a cursor tells of its element
module _ {A B : Type 0} (f : A → ℕ → B) (c : Cursor) where
  pub next_nothing : (x : Res A) → None ≡ next_answer f c x → x ≡ bad
  unfolding answer
  next_nothing bad h = refl
  next_nothing (got a e) h = absurd (cc)

  pub told_next : (x : Res A) {b : B} {r : Cursor} → Some (b, r) ≡ next_answer f c x
      → (a : A) × (e : ℕ) × (x ≡ got a e) × (b ≡ f a e) × (r ≡ past c e)
  unfolding answer
  told_next bad h = absurd (cc)
  told_next (got a e) {b} {r} h =
      let same = some_pair_parts b (f a e) r (past c e) h in
      (a, e, refl, same.0, same.1)
