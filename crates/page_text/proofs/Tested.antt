-- A test that every element of a list passes, and what passes it in text. Assumes nothing.
use mathlib.Core.Path.{◌≡◌, refl}
use mathlib.Core.Bool.{Bool, true, false}
use mathlib.Core.List.{List, [], ◌∷◌, ◌++◌}
use Prim.Native.Nat.{ℕ, zero, suc, ◌+◌, ◌/◌, ◌%◌, ◌≤◌, ◌<◌}
use native.Mathlib.Omega.{arith}
use native.Mathlib.Decide.{dec_lt}
use lib.Dec.{leb, ltb}
use borrow.Author.Tests.{le-leb, lt-ltb}
use Rattle.laws.specs.Pick.{pick}
use Rattle.laws.specs.Ascii.{blank}
use Rattle.text.specs.Digits.{decimal}
use Rattle.text.specs.Columns.{blanks, right}
use Rattle.text.proofs.Digits.{decimal_one, decimal_more}

unfoldable pub all : (ℕ → Bool) → List ℕ → Bool
all test [] = true
all test (x ∷ l) = pick (test x) (all test l) false

-- bytes that can stand on a line, and those below the letters
abbrev pub printed : ℕ → Bool
printed x = leb 32 x

abbrev pub low : ℕ → Bool
low x = ltb x 58

-- two tests that both hold
pub first_holds : (s t : Bool) → pick s t false ≡ true → (s ≡ true) × (t ≡ true)
unfolding pick
first_holds true t h = (refl, h)
first_holds false t h = let z : ◌≡◌ {A = ℕ} 0 1 = cc in absurd (omega arith)

module _ (test : ℕ → Bool) where
  pub all_append : (a b : List ℕ) → all test (a ++ b) ≡ pick (all test a) (all test b) false
  unfolding all pick
  all_append [] b = refl
  all_append (x ∷ a) b = from (test x) (all_append a b)
    where
      from : (t : Bool) → all test (a ++ b) ≡ pick (all test a) (all test b) false
          → pick t (all test (a ++ b)) false ≡ pick (pick t (all test a) false) (all test b) false
      from true h = h
      from false h = refl

  pub all_blanks : test blank ≡ true → (n : ℕ) → all test (blanks n) ≡ true
  unfolding all blanks pick
  all_blanks h zero = refl
  all_blanks h (suc n) = rw h (all_blanks h n)

  module _ (digit : (d : ℕ) → d < 10 → test (48 + d) ≡ true) where
    decimal_by : (f n : ℕ) → n ≤ f → all test (decimal n) ≡ true
    unfolding all pick
    decimal_by zero n h = rw (decimal_one n (omega arith), digit n (omega arith))
    decimal_by (suc f) n h =
        elim (dec_lt n 10) [
          | yes l ↦ rw (decimal_one n l, digit n l)
          | no l ↦
              rw (decimal_more n (omega arith), all_append, decimal_by f (n / 10) (omega arith), digit (n % 10) (omega arith))
        ]

    pub all_decimal : (n : ℕ) → all test (decimal n) ≡ true
    all_decimal n = decimal_by n n (omega arith)

pub printed_blanks : (n : ℕ) → all printed (blanks n) ≡ true
printed_blanks n = all_blanks printed refl n

pub printed_decimal : (n : ℕ) → all printed (decimal n) ≡ true
printed_decimal n = all_decimal printed (λ d h. le-leb 32 (48 + d) (omega arith)) n

pub low_right : (w n : ℕ) → all low (right w (decimal n)) ≡ true
unfolding right pick
low_right w n =
    rw (all_append, all_blanks low refl, all_decimal low (λ d h. lt-ltb (48 + d) 58 (omega arith)) n)
