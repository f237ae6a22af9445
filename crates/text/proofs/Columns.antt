-- Laws of columns. Assumes nothing.
use mathlib.Core.Path.{◌≡◌, ap}
use mathlib.Core.List.{List, [], ◌∷◌, ◌++◌}
use Prim.Native.Nat.{ℕ, suc, ◌+◌, ◌-◌, ◌≤◌, ◌<◌}
use native.Mathlib.Omega.{arith}
use lib.ListN.{length, length-append, length-replicate, replicate-append-replicate}
use Rattle.laws.specs.Ascii.{blank}
use Rattle.text.specs.Columns.{blanks, right, left}
use Rattle.text.specs.Put.{Put}
use Rattle.text.proofs.Put.{then_put}

pub length_blanks : (n : ℕ) → length (blanks n) ≡ n
unfolding blanks
length_blanks n = length-replicate n blank

pub blanks_none : (n : ℕ) → n ≤ 0 → blanks n ≡ []
unfolding blanks
blanks_none n h = let e : n ≡ 0 = omega arith in rw e

-- the first of several
pub blanks_next : (n : ℕ) → 0 < n → blanks n ≡ blank ∷ blanks (n - 1)
unfolding blanks
blanks_next n h = let e : n ≡ suc (n - 1) = omega arith in ap blanks e

pub blanks_add : (m n : ℕ) → blanks m ++ blanks n ≡ blanks (m + n)
unfolding blanks
blanks_add m n = replicate-append-replicate m n blank

-- text that is not wider than its columns takes just these
pub length_right : (w : ℕ) (v : List ℕ) → length v ≤ w → length (right w v) ≡ w
unfolding right
length_right w v h = simp (length-append, length_blanks) (omega arith)

pub length_left : (w : ℕ) (v : List ℕ) → length v ≤ w → length (left w v) ≡ w
unfolding left
length_left w v h = simp (length-append, length_blanks) (omega arith)

-- text in some columns is never longer than both
pub right_most : (w : ℕ) (v : List ℕ) (m : ℕ) → w ≤ m → length v ≤ m → length (right w v) ≤ m
unfolding right
right_most w v m h k = simp (length-append, length_blanks) (omega arith)

-- text put in columns: the text and the blanks that fill them
module _ (w m : ℕ) {p q r : ℕ} {v s t t' : List ℕ} (fill : m ≡ w - length v) where
  pub put_to_right : Put p (blanks m) s t q → Put q v t t' r → Put p (right w v) s t' r
  unfolding right
  put_to_right f g = rw (← fill) (then_put f g)

  pub put_to_left : Put p v s t q → Put q (blanks m) t t' r → Put p (left w v) s t' r
  unfolding left
  put_to_left f g = rw (← fill) (then_put f g)
