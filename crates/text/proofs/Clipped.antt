-- Laws of `clipped`. The first four say what it is at each form of the buffer, the index and the text, and most of the others go by them.
-- Assumes nothing.
use mathlib.Core.Path.{◌≡◌, refl, sym, ap}
use mathlib.Core.List.{List, [], ◌∷◌, ◌++◌, append-nil}
use Prim.Native.Nat.{ℕ, zero, suc, min, ◌+◌, ◌-◌, ◌≤◌}
use native.Mathlib.Decide.{dec_le}
use Rattle.laws.specs.Bytes.{written}
use native.Mathlib.Nat.{add-zero, zero-add, suc-add, sub-zero, zero-sub, suc-sub-suc, le_of_suc-le-suc, not-suc-le-zero}
use native.Mathlib.Omega.{arith}
use lib.ListN.{length, take, drop, set, take-append-drop, drop_of_length-le}
use lib.Seq.{take-nil, drop-nil, take_all, take-length, length-take-le}
use Rattle.text.specs.Clipped.{clipped}

-- an empty buffer takes nothing
pub clipped_empty : (p : ℕ) (v : List ℕ) → clipped [] p v ≡ []
unfolding clipped
clipped_empty p v = rw (zero-sub, take-nil, drop-nil)

-- nothing is written
pub clipped_nothing : (s : List ℕ) (p : ℕ) → clipped s p [] ≡ s
unfolding clipped
clipped_nothing s p = rw (add-zero, take-nil, append-nil, take-append-drop)

-- what stands before the index stays
pub clipped_after : (x : ℕ) (s : List ℕ) (p : ℕ) (v : List ℕ) → clipped (x ∷ s) (suc p) v ≡ x ∷ clipped s p v
unfolding clipped
clipped_after x s p v = rw (suc-sub-suc, suc-add)

-- the first byte is written
pub clipped_here : (x : ℕ) (s : List ℕ) (b : ℕ) (v : List ℕ) → clipped (x ∷ s) 0 (b ∷ v) ≡ b ∷ clipped s 0 v
unfolding clipped
clipped_here x s b v = simp (sub-zero, zero-add)

-- a buffer keeps its length
pub length_clipped : (s : List ℕ) (p : ℕ) (v : List ℕ) → length (clipped s p v) ≡ length s
length_clipped [] p v = ap length (clipped_empty p v)
length_clipped (x ∷ s) (suc p) v = rw clipped_after (ap suc (length_clipped s p v))
length_clipped (x ∷ s) zero [] = ap length (clipped_nothing (x ∷ s) 0)
length_clipped (x ∷ s) zero (b ∷ v) = rw clipped_here (ap suc (length_clipped s 0 v))

-- past the end nothing is written
pub clipped_outside : (s : List ℕ) (p : ℕ) (v : List ℕ) → length s ≤ p → clipped s p v ≡ s
clipped_outside [] p v h = clipped_empty p v
clipped_outside (x ∷ s) zero v h = absurd (not-suc-le-zero h)
clipped_outside (x ∷ s) (suc p) v h = rw (clipped_after, clipped_outside s p v (le_of_suc-le-suc h))

-- one byte is a store, which does nothing past the end
pub clipped_byte : (s : List ℕ) (p b : ℕ) → set s p b ≡ clipped s p (b ∷ [])
clipped_byte [] p b = sym (clipped_empty p (b ∷ []))
clipped_byte (x ∷ s) zero b = rw (clipped_here, clipped_nothing)
clipped_byte (x ∷ s) (suc p) b = rw (clipped_after, ← clipped_byte s p b)

-- text after text
pub then_clipped : (s : List ℕ) (p q : ℕ) (a b : List ℕ) → q ≡ p + length a → clipped (clipped s p a) q b ≡ clipped s p (a ++ b)
then_clipped [] p q a b e = simp clipped_empty
then_clipped (x ∷ s) (suc p) q a b e = rw (e, suc-add) (simp (clipped_after, then_clipped s p (p + length a) a b refl))
then_clipped (x ∷ s) zero q [] b e = rw (e, add-zero, clipped_nothing)
then_clipped (x ∷ s) zero q (c ∷ a) b e =
    rw (e, zero-add) (simp (clipped_here, clipped_after, then_clipped s 0 (length a) a b (sym (zero-add (length a)))))

-- text that fits stands there whole
pub clipped_fits : (s : List ℕ) (p : ℕ) (v : List ℕ) → p + length v ≤ length s → clipped s p v ≡ take p s ++ v ++ drop (p + length v) s
unfolding clipped
clipped_fits s p v h = rw (take_all (length s - p) v (omega arith))

-- As much of the text as there is room for is written.
pub clipped_written : (s : List ℕ) (p n : ℕ) (v : List ℕ) → p ≤ length s → n ≡ min (length v) (length s - p) → written s p (take n v) ≡ clipped s p v
unfolding clipped written
clipped_written s p n v h e =
    let long : length (take n v) ≡ n = length-take-le n v (omega arith) in
    elim (dec_le (length v) (length s - p)) [
      | yes l ↦
          let all : n ≡ length v = omega arith in
          rw (long, all, take-length v, take_all (length s - p) v l)
      | no l ↦
          let room : n ≡ length s - p = omega arith in
          rw (long, drop_of_length-le s {i = p + n} (omega arith), drop_of_length-le s {i = p + length v} (omega arith), room)
    ]
