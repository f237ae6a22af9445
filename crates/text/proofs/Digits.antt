-- Laws of `decimal`, `hex8` and `hex_bytes`. Assumes nothing.
use mathlib.Core.Path.{◌≡◌, refl, sym, ap, ◌∙◌}
use mathlib.Core.List.{List, [], ◌∷◌, ◌++◌}
use Prim.Native.Nat.{ℕ, zero, suc, ◌+◌, ◌*◌, ◌/◌, ◌%◌, ◌^◌, ◌≤◌, ◌<◌}
use native.Mathlib.Nat.{not-suc-le-zero, lt_of_lt_of_le, pow-suc}
use native.Mathlib.Omega.{arith}
use native.Mathlib.Decide.{dec_lt}
use borrow.Author.Tests.{lt-ltb, le-ltb}
use lib.Dec.{lit≤}
use lib.ListN.{length, length-append}
use Rattle.laws.specs.Parse.{joined}
use Rattle.text.specs.Digits.{digits, decimal, hex_digit, hex_digits, hex8, hex_bytes}

-- The two equations of `digits`: a number below ten is one digit, whatever the fuel, and any other has one digit more than its tenth.
digits_one : (f n : ℕ) → n < 10 → digits f n ≡ (48 + n) ∷ []
unfolding digits
digits_one zero n h = refl
digits_one (suc f) n h = rw (lt-ltb n 10 h, digits)

digits_more : (f n : ℕ) → 10 ≤ n → digits (suc f) n ≡ digits f (n / 10) ++ ((48 + n % 10) ∷ [])
unfolding digits
digits_more f n h = rw (le-ltb n 10 h, digits)

-- Any fuel that is not below n serves.
digits_enough : (f g n : ℕ) → n ≤ f → n ≤ g → digits f n ≡ digits g n
digits_enough zero g n h k = digits_one zero n (omega arith) ∙ sym (digits_one g n (omega arith))
digits_enough (suc f) zero n h k = digits_one (suc f) n (omega arith) ∙ sym (digits_one zero n (omega arith))
digits_enough (suc f) (suc g) n h k =
    elim (dec_lt n 10) [
      | yes l ↦ digits_one (suc f) n l ∙ sym (digits_one (suc g) n l)
      | no l ↦
          rw (digits_more f n (omega arith), digits_more g n (omega arith), digits_enough f g (n / 10) (omega arith) (omega arith))
    ]

-- The two equations of `decimal`, without fuel.
pub decimal_one : (n : ℕ) → n < 10 → decimal n ≡ (48 + n) ∷ []
unfolding decimal
decimal_one n h = digits_one n n h

pub decimal_more : (n : ℕ) → 10 ≤ n → decimal n ≡ decimal (n / 10) ++ ((48 + n % 10) ∷ [])
unfolding decimal
decimal_more zero h = absurd (not-suc-le-zero h)
decimal_more (suc m) h =
    rw (digits_more m (suc m) h, digits_enough m (suc m / 10) (suc m / 10) (omega arith) (omega arith))

-- A number below 10 ^ (d + 1) has at most d + 1 digits.
pub length_decimal : (d n : ℕ) → n < 10 ^ suc d → length (decimal n) ≤ suc d
length_decimal zero n h = omega (arith, ap length (decimal_one n h))
length_decimal (suc d) n h =
    elim (dec_lt n 10) [
      | yes l ↦ omega (arith, ap length (decimal_one n l))
      | no l ↦
          let k : n < 10 ^ suc d * 10 = rw pow-suc at h in
          let tenth : length (decimal (n / 10)) ≤ suc d = length_decimal d (n / 10) (omega arith) in
          omega (arith, simp length-append at (ap length (decimal_more n (omega arith))))
    ]

pub length_decimal_64 : (n : ℕ) → n < 2 ^ 64 → length (decimal n) ≤ 20
length_decimal_64 n h = length_decimal 19 n (lt_of_lt_of_le h (lit≤ tt))

pub length_hex_digits : (k n : ℕ) → length (hex_digits k n) ≡ k
unfolding hex_digits
length_hex_digits zero n = refl
length_hex_digits (suc k) n = ap suc (length_hex_digits k n)

pub length_hex8 : (n : ℕ) → length (hex8 n) ≡ 8
unfolding hex8
length_hex8 n = length_hex_digits 8 n

-- The last k hexadecimal digits: none, and the first of several.
pub hex_digits_none : (k n : ℕ) → k ≤ 0 → hex_digits k n ≡ []
unfolding hex_digits
hex_digits_none zero n h = refl
hex_digits_none (suc k) n h = absurd (not-suc-le-zero h)

pub hex_digits_next : (k j n : ℕ) → k ≡ suc j → hex_digits k n ≡ hex_digit (n / 2 ^ (4 * j) % 16) ∷ hex_digits j n
unfolding hex_digits
hex_digits_next k j n e = rw e

-- The length of the digits of some bytes.
pub length_hex_bytes : (bytes : List ℕ) → length (hex_bytes bytes) ≡ 2 * length bytes
unfolding hex_bytes joined hex_digits
length_hex_bytes [] = refl
length_hex_bytes (b ∷ bytes) = omega (arith, length_hex_bytes bytes)
