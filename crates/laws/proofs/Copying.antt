-- The invariant of a loop that writes a list element by element, with its laws at the start, at a turn and at the end. Assumes nothing.
use mathlib.Core.Path.{◌≡◌, refl, sym, ◌∙◌}
use mathlib.Core.List.{List}
use Prim.Native.Nat.{ℕ, ◌+◌, ◌≤◌, ◌<◌}
use native.Mathlib.Nat.{zero-add}
use native.Mathlib.Numerals.{add-one}
use native.Mathlib.Omega.{arith}
use lib.ListN.{length, set, get_or, length-set}
use lib.Seq.{paste, paste-zero, paste-suc, take-length}
use Rattle.laws.specs.Bytes.{written, bytes_at}
use Rattle.laws.proofs.Written.{length_bytes_at, get_or_bytes_at, written_whole}

-- s is s₀ with the first i elements of v written from index p on
pub record Copying (s₀ : List ℕ) (p : ℕ) (v : List ℕ) (s : List ℕ) (i : ℕ) : Type 0 where
  pub within : i ≤ length v
  pub so_far : s ≡ paste s₀ p v i
  pub as_long : length s ≡ length s₀

pub start : (s : List ℕ) (p : ℕ) (v : List ℕ) → Copying s p v s 0
start s p v = record { within = omega arith; so_far = paste-zero s p v; as_long = refl }

module _ {s₀ : List ℕ} {p : ℕ} {v s : List ℕ} {i : ℕ} (h : Copying s₀ p v s i) where
  pub next : p + length v ≤ length s₀ → i < length v → Copying s₀ p v (set s (p + i) (get_or v i 0)) (i + 1)
  next fits more =
      record {
        within = omega arith;
        so_far = rw (h.so_far, add-one i) (paste-suc s₀ p v i 0 (omega arith) more);
        as_long = length-set s (p + i) (get_or v i 0) ∙ h.as_long;
      }

  pub done : length v ≤ i → s ≡ written s₀ p v
  unfolding written
  done all =
      let e : i ≡ length v = omega arith in
      h.so_far ∙ rw (e, take-length v)

-- an array of n elements that takes those of s from index p on
module _ (s : List ℕ) (p n : ℕ) {b₀ b : List ℕ} {i : ℕ} (h : Copying b₀ 0 (bytes_at s p n) b i) (as_long : length b₀ ≡ n) (fits : p + n ≤ length s) where
  pub next_taken : i < n → Copying b₀ 0 (bytes_at s p n) (set b i (get_or s (p + i) 0)) (i + 1)
  next_taken more =
      let l : length (bytes_at s p n) ≡ n = length_bytes_at s p n fits in
      rw (zero-add i, get_or_bytes_at s p n i more) at (next h (omega arith) (omega arith))

  pub all_taken : n ≤ i → b ≡ bytes_at s p n
  all_taken all =
      let l : length (bytes_at s p n) ≡ n = length_bytes_at s p n fits in
      done h (omega arith) ∙ written_whole b₀ (bytes_at s p n) (l ∙ sym as_long)
