-- Laws of little-endian numbers, over the width. Assumes nothing.
use mathlib.Core.Path.{◌≡◌, refl, sym, ap, ap₂, ◌∙◌}
use mathlib.Core.List.{List, [], ◌∷◌, ◌++◌}
use Prim.Native.Nat.{ℕ, zero, suc, ◌+◌, ◌*◌, ◌/◌, ◌%◌, ◌^◌, ◌<◌}
use native.Mathlib.Nat.{add-zero, pow-suc, pow-succ', mul_assoc, div-lt_iff_lt-mul, div-one, div-div-eq-div-mul}
use native.Mathlib.Omega.{arith}
use lib.Dec.{lit<}
use lib.ListN.{length, get_or, take}
use lib.Seq.{drop-cons}
use lib.Seq.{take-suc, length-take-le, take-length}
use Rattle.std.specs.Int.{bytes_low_first, sum_through, byte_worth}
use Rattle.laws.specs.Bytes.{AllBytes, bytes_at, le, of_le}

pub length_le : (w x : ℕ) → length (le w x) ≡ w
unfolding le
length_le zero x = refl
length_le (suc w) x = ap suc (length_le w (x / 256))

-- reading back what was written
pub of_le_le : (w x : ℕ) → x < 256 ^ w → of_le (le w x) ≡ x
unfolding le of_le
of_le_le zero x h = omega arith
of_le_le (suc w) x h =
    let small : x / 256 < 256 ^ w = (div-lt_iff_lt-mul (lit< tt)).1 (rw pow-suc at h) in
    omega (arith, of_le_le w (x / 256) small)

-- bytes are those of the number that they make
pub le_of_le : (bytes : List ℕ) → AllBytes bytes → le (length bytes) (of_le bytes) ≡ bytes
unfolding le of_le
le_of_le [] h = refl
le_of_le (b ∷ bytes) h =
    let low : (b + 256 * of_le bytes) % 256 ≡ b = omega (arith, h zero) in
    let high : (b + 256 * of_le bytes) / 256 ≡ of_le bytes = omega (arith, h zero) in
    ap₂ ◌∷◌ low (ap (le (length bytes)) high ∙ le_of_le bytes (λ i. h (suc i)))

pub of_le_small : (bytes : List ℕ) → AllBytes bytes → of_le bytes < 256 ^ length bytes
unfolding of_le
of_le_small [] h = omega arith
of_le_small (b ∷ bytes) h = rw pow-suc (omega (arith, h zero, of_le_small bytes (λ i. h (suc i))))

-- a number in two parts
pub of_le_append : (a b : List ℕ) → of_le (a ++ b) ≡ of_le a + 256 ^ length a * of_le b
unfolding of_le
of_le_append [] b = omega arith
of_le_append (x ∷ a) b =
    let e : 256 ^ suc (length a) * of_le b ≡ 256 * (256 ^ length a * of_le b) =
    ap (λ (n : ℕ). n * of_le b) (pow-succ' 256 (length a)) ∙ mul_assoc 256 (256 ^ length a) (of_le b) in
    omega (arith, of_le_append a b)

-- a number in s, of one byte and the rest
pub of_le_cons : (s : List ℕ) (p n : ℕ) → p < length s → of_le (bytes_at s p (suc n)) ≡ get_or s p 0 + 256 * of_le (bytes_at s (suc p) n)
unfolding of_le bytes_at
of_le_cons s p n h = rw (drop-cons s p 0)

-- a number of one byte
pub of_le_one : (s : List ℕ) (p : ℕ) → p < length s → of_le (bytes_at s p 1) ≡ get_or s p 0
unfolding of_le bytes_at
of_le_one s p h = omega (arith, of_le_cons s p 0 h)

-- the machine's bytes of a number, from byte i upward, and all w of them
bytes_low_first-from : (i w x : ℕ) → bytes_low_first i w x ≡ le w (x / 256 ^ i)
unfolding le
bytes_low_first-from i zero x = refl
bytes_low_first-from zero (suc w) x =
    ap₂ ◌∷◌ (ap (λ (n : ℕ). n % 256) (sym (div-one x))) (bytes_low_first-from 1 w x ∙ ap (λ (n : ℕ). le w (n / 256)) (sym (div-one x)))
bytes_low_first-from (suc i) (suc w) x =
    let next : x / 256 ^ suc (suc i) ≡ x / 256 ^ suc i / 256 =
    ap (λ (n : ℕ). x / n) (pow-suc 256 (suc i)) ∙ sym (div-div-eq-div-mul x (256 ^ suc i) 256) in
    ap (λ (l : List ℕ). x / 256 ^ suc i % 256 ∷ l) (bytes_low_first-from (suc (suc i)) w x ∙ ap (le w) next)

pub bytes_low_first-le : (w x : ℕ) → bytes_low_first 0 w x ≡ le w x
bytes_low_first-le w x = bytes_low_first-from 0 w x ∙ ap (le w) (div-one x)

-- the number that the machine makes of the k + 1 first bytes, and of all
sum_through-first : (bytes : List ℕ) (k : ℕ) → k < length bytes → sum_through (λ i. byte_worth i (get_or bytes i 0)) k ≡ of_le (take (suc k) bytes)
unfolding of_le
sum_through-first bytes zero h = rw (take-suc bytes 0 0 h) (sym (add-zero (get_or bytes 0 0)))
sum_through-first bytes (suc k) h =
    let x : ℕ = get_or bytes (suc k) 0 in
    let long : length (take (suc k) bytes) ≡ suc k = length-take-le (suc k) bytes (omega arith) in
    rw (take-suc bytes (suc k) 0 h, of_le_append (take (suc k) bytes) (x ∷ []), long) (omega (arith, sum_through-first bytes k (omega arith)))

pub sum_through-of_le : (bytes : List ℕ) (k : ℕ) → length bytes ≡ suc k → sum_through (λ i. byte_worth i (get_or bytes i 0)) k ≡ of_le bytes
sum_through-of_le bytes k e =
    sum_through-first bytes k (omega arith) ∙ ap of_le (ap (λ (n : ℕ). take n bytes) (sym e) ∙ take-length bytes)
