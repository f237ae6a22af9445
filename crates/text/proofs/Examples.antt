-- Worked examples of the definitions, by computation. Assumes nothing.
use mathlib.Core.Path.{◌≡◌, refl}
use mathlib.Core.List.{[], ◌∷◌}
use Prim.Native.Nat.{◌-◌, ◌^◌}
use lib.ListN.{drop}
use Rattle.laws.specs.Ascii.{ascii}
use Rattle.laws.specs.Parse.{joined}
use Rattle.text.specs.Clipped.{clipped}
use Rattle.text.specs.Columns.{blanks, right, left, spaced}
use Rattle.text.specs.Digits.{digits, decimal, hex_digit, hex_digits, hex8, hex_bytes}

-- "65535"
decimal_65535 : decimal 65535 ≡ 54 ∷ 53 ∷ 53 ∷ 51 ∷ 53 ∷ []
unfolding decimal digits
decimal_65535 = refl

-- "18446744073709551615", the largest u64, by its last digits
decimal_largest : drop 15 (decimal (2 ^ 64 - 1)) ≡ 53 ∷ 49 ∷ 54 ∷ 49 ∷ 53 ∷ []
unfolding decimal digits
decimal_largest = refl

-- "0"
decimal_0 : decimal 0 ≡ 48 ∷ []
unfolding decimal digits
decimal_0 = refl

-- "cbf43926", the CRC-32 of "123456789"
hex8_cbf43926 : hex8 0xcbf43926 ≡ 99 ∷ 98 ∷ 102 ∷ 52 ∷ 51 ∷ 57 ∷ 50 ∷ 54 ∷ []
unfolding hex8 hex_digits hex_digit
hex8_cbf43926 = refl

-- "00af", two bytes
hex_bytes_00af : hex_bytes (0 ∷ 0xaf ∷ []) ≡ 48 ∷ 48 ∷ 97 ∷ 102 ∷ []
unfolding hex_bytes joined hex_digits hex_digit
hex_bytes_00af = refl

-- two of three bytes fit
two_fit : clipped (1 ∷ 2 ∷ 3 ∷ []) 1 (7 ∷ 8 ∷ 9 ∷ []) ≡ 1 ∷ 7 ∷ 8 ∷ []
unfolding clipped
two_fit = refl

-- none of them fits
none_fits : clipped (1 ∷ 2 ∷ 3 ∷ []) 4 (7 ∷ 8 ∷ 9 ∷ []) ≡ 1 ∷ 2 ∷ 3 ∷ []
unfolding clipped
none_fits = refl

-- a number to the right, a word to the left, one blank between columns; a wider number stands whole
columns : (right 5 (decimal 42) ≡ ascii "   42")
    × (left 5 (ascii "42") ≡ ascii "42   ")
    × (right 2 (decimal 12345) ≡ ascii "12345")
    × (spaced (ascii "7" ∷ ascii "a" ∷ []) ≡ ascii "7 a")
    × (spaced [] ≡ [])
unfolding right left spaced blanks decimal digits ascii
columns = (refl, refl, refl, refl, refl)
