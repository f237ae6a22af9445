-- Text put byte after byte or element after element by a loop, and text put after text. Assumes nothing.
use mathlib.Core.Path.{◌≡◌, sym, ap, ◌∙◌}
use mathlib.Core.List.{List, [], ◌∷◌, ◌++◌}
use Prim.Native.Nat.{ℕ, ◌+◌, ◌≤◌, ◌<◌}
use native.Mathlib.Numerals.{add-one}
use native.Mathlib.Omega.{arith}
use lib.ListN.{length, take, get_or, length-append}
use lib.Seq.{take_all}
use Rattle.laws.specs.Parse.{joined}
use Rattle.laws.proofs.Parses.{joined_next}
use Rattle.text.specs.Clipped.{clipped}
use Rattle.text.specs.Put.{Put}
use Rattle.text.proofs.Clipped.{length_clipped, clipped_nothing, then_clipped}

-- The invariant of a loop is an equation: the buffer t, with `rest` put after the i bytes that are put already, is `whole`.
-- A turn puts the first byte of the rest.
pub next : (t : List ℕ) {t' rest v whole : List ℕ} (p i b : ℕ)
    → rest ≡ b ∷ v → t' ≡ clipped t (p + i) (b ∷ []) → clipped t (p + i) rest ≡ whole
    → clipped t' (p + (i + 1)) v ≡ whole
next t {v = v} p i b r e h = rw (e, then_clipped t (p + i) (p + (i + 1)) (b ∷ []) v (omega arith), ← r) h

-- Where nothing is left, the buffer is as it was to be.
pub done : (t : List ℕ) (q : ℕ) {rest whole : List ℕ} → rest ≡ [] → clipped t q rest ≡ whole → t ≡ whole
done t q r h = sym (clipped_nothing t q) ∙ ap (clipped t q) (sym r) ∙ h

-- The buffer keeps its length.
pub same : (t s : List ℕ) (q p : ℕ) (rest v : List ℕ) → clipped t q rest ≡ clipped s p v → length t ≡ length s
same t s q p rest v e = sym (length_clipped t q rest) ∙ ap length e ∙ length_clipped s p v

-- Text put after text, as two calls put it one after the other.
pub then_put : {p q r : ℕ} {a b s t t' : List ℕ} → Put p a s t q → Put q b t t' r → Put p (a ++ b) s t' r
then_put {p} {q} {a = a} {b} {s} f g = record {
  next = rw length-append (omega (arith, f.next, g.next));
  bytes = g.bytes ∙ ap (λ (l : List ℕ). clipped l q b) f.bytes ∙ then_clipped s p q a b f.next;
}

-- The buffer keeps its length, by what was put.
pub put_length : {p q : ℕ} {v s t : List ℕ} → Put p v s t q → length t ≡ length s
put_length {p} {v = v} {s} h = ap length h.bytes ∙ length_clipped s p v

-- The invariant of a loop over elements: the text of the first i is put. A turn puts the text of the next.
pub put_none : {p : ℕ} {s : List ℕ} → Put p [] s s p
put_none {p} {s} = record { next = omega arith; bytes = sym (clipped_nothing s p) }

module _ {A : Type 0} (f : A → List ℕ) (l : List A) (i : ℕ) {p q : ℕ} {s t : List ℕ} (h : Put p (joined f (take i l)) s t q) where
  pub put_next : (d : A) {r : ℕ} {t' : List ℕ} → i < length l → Put q (f (get_or l i d)) t t' r → Put p (joined f (take (i + 1) l)) s t' r
  put_next d k g = rw (add-one, joined_next f l i d k) (then_put h g)

  pub put_all : length l ≤ i → Put p (joined f l) s t q
  put_all k = rw (take_all i l k) at h
