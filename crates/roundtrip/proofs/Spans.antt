-- Laws of bytes that stand in a list. Assumes nothing.
use mathlib.Core.Path.{◌≡◌, refl, sym, ap, ap₂, ◌∙◌}
use mathlib.Core.List.{List, [], ◌++◌}
use Prim.Native.Nat.{ℕ, ◌+◌, ◌-◌, ◌≤◌, ◌<◌}
use native.Mathlib.Omega.{arith}
use lib.ListN.{length, take, drop, length-append, length-drop}
use lib.Seq.{take-take, take-append_seam, drop-append_seam, take-length}
use Rattle.laws.specs.Bytes.{bytes_at}
use Rattle.laws.proofs.Written.{bytes_at_add}
use Rattle.roundtrip.proofs.Inverse.{Spans}

pub empty : (s : List ℕ) (p : ℕ) → p ≤ length s → Spans s p [] p
unfolding bytes_at
empty s p h = record { end = omega arith; within = h; these = refl }

-- two parts, one behind the other
pub append : {s : List ℕ} {p m e : ℕ} {a b : List ℕ} → Spans s p a m → Spans s m b e → Spans s p (a ++ b) e
append {s} {p} {m} {e} {a} {b} g h =
    record {
      end = omega (arith, g.end, h.end, length-append a b);
      within = h.within;
      these =
          ap (bytes_at s p) (length-append a b)
          ∙ bytes_at_add s p (length a) (length b)
          ∙ ap₂ ◌++◌ g.these (ap (λ (q : ℕ). bytes_at s q (length b)) (sym g.end) ∙ h.these);
    }

module _ {s : List ℕ} {p e : ℕ} (a b : List ℕ) (h : Spans s p (a ++ b) e) where
  pub left : Spans s p a (p + length a)
  unfolding bytes_at
  left =
      let n : length a ≤ length (a ++ b) = omega (arith, length-append a b) in
      record {
        end = refl;
        within = omega (arith, h.end, h.within);
        these = sym (take-take (length a) (length (a ++ b)) (drop p s) n) ∙ ap (take (length a)) h.these ∙ take-append_seam a b;
      }

  pub right : Spans s (p + length a) b e
  right =
      let both : a ++ bytes_at s (p + length a) (length b) ≡ a ++ b =
      ap (λ (l : List ℕ). l ++ bytes_at s (p + length a) (length b)) (sym left.these)
      ∙ sym (bytes_at_add s p (length a) (length b))
      ∙ ap (bytes_at s p) (sym (length-append a b))
      ∙ h.these in
      record {
        end = omega (arith, h.end, length-append a b);
        within = h.within;
        these =
            sym (drop-append_seam a (bytes_at s (p + length a) (length b))) ∙ ap (drop (length a)) both ∙ drop-append_seam a b;
      }

-- what stands at the head of the rest of a list
pub of_drop : (s : List ℕ) (p : ℕ) (v rest : List ℕ) → 0 < length v → drop p s ≡ v ++ rest → Spans s p v (p + length v)
unfolding bytes_at
of_drop s p v rest n h =
    record {
      end = refl;
      within = omega (arith, length-drop p s, ap length h, length-append v rest);
      these = ap (take (length v)) h ∙ take-append_seam v rest;
    }

-- by its two places
pub between : {s : List ℕ} {p : ℕ} {v : List ℕ} {e : ℕ} → Spans s p v e → bytes_at s p (e - p) ≡ v
between {s} {p} {v} {e} h =
    let n : e - p ≡ length v = omega (arith, h.end) in
    ap (bytes_at s p) n ∙ h.these

-- what stands from the start to the end is all
pub all : {s v : List ℕ} → Spans s 0 v (length s) → v ≡ s
unfolding bytes_at
all {s} {v} h =
    let n : length v ≡ length s = omega (arith, h.end) in
    sym h.these ∙ ap (λ (k : ℕ). take k s) n ∙ take-length s

pub itself : (s : List ℕ) → Spans s 0 s (length s)
unfolding bytes_at
itself s = record { end = omega arith; within = omega arith; these = take-length s }

-- two parts are empty only where both are
pub first : (a b : List ℕ) → 0 < length a → 0 < length (a ++ b)
first a b h = omega (arith, length-append a b)

pub last : (a b : List ℕ) → 0 < length b → 0 < length (a ++ b)
last a b h = omega (arith, length-append a b)
