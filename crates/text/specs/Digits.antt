-- Numbers as text, in ASCII: '0' is 48 and 'a' is 97. Assumes nothing.
use Rattle.std.specs.Prelude.{ℕ, zero, suc, ◌+◌, ◌*◌, ◌/◌, ◌%◌, ◌^◌, true, false, cond, List, [], ◌∷◌, ◌++◌, ltb}
use Rattle.laws.specs.Parse.{joined}

-- n in base ten, by at most `fuel` divisions by ten. antt computes only the case of an `elim` that is taken, so the recursion ends where
-- n is below ten, however large the fuel is.
unfoldable pub digits : ℕ → ℕ → List ℕ
digits zero n = (48 + n) ∷ []
digits (suc fuel) n = elim (ltb n 10) [ true ↦ (48 + n) ∷ [] | false ↦ digits fuel (n / 10) ++ ((48 + n % 10) ∷ []) ]

-- n in base ten, without leading zeros, the most significant digit first. n divisions are enough.
unfoldable pub decimal : ℕ → List ℕ
decimal n = digits n n

-- the hexadecimal digit d, in lower case
unfoldable pub hex_digit : ℕ → ℕ
hex_digit d = cond (ltb d 10) (48 + d) (87 + d)

-- the last k hexadecimal digits of n, the most significant first. A digit is four bits.
unfoldable pub hex_digits : ℕ → ℕ → List ℕ
hex_digits zero n = []
hex_digits (suc k) n = hex_digit (n / 2 ^ (4 * k) % 16) ∷ hex_digits k n

-- the low 32 bits of n as eight hexadecimal digits
unfoldable pub hex8 : ℕ → List ℕ
hex8 n = hex_digits 8 n

-- each byte as two hexadecimal digits, in the order of the bytes
unfoldable pub hex_bytes : List ℕ → List ℕ
hex_bytes bytes = joined (hex_digits 2) bytes
