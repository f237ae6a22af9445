-- Bytes in a list: parts, writes and little-endian numbers.
use Rattle.std.specs.Prelude.{List, [], ◌∷◌, ◌++◌, ℕ, zero, suc, ◌+◌, ◌*◌, ◌/◌, ◌%◌, ◌<◌, length, take, drop, replicate, get_or}

-- each element is a byte, as in every slice of bytes
abbrev pub AllBytes : List ℕ → Type 0
AllBytes s = (i : ℕ) → get_or s i 0 < 256

-- the n elements of s from index p on (fewer where s ends before)
unfoldable pub bytes_at : List ℕ → ℕ → ℕ → List ℕ
bytes_at s p n = take n (drop p s)

-- s with v in the place of its elements from index p on
unfoldable pub written : List ℕ → ℕ → List ℕ → List ℕ
written s p v = take p s ++ v ++ drop (p + length v) s

unfoldable pub zeros : ℕ → List ℕ
zeros n = replicate n 0

-- x as w bytes, the least significant first
unfoldable pub le : ℕ → ℕ → List ℕ
le zero x = []
le (suc w) x = x % 256 ∷ le w (x / 256)

-- the number whose bytes, the least significant first, are those of the list
unfoldable pub of_le : List ℕ → ℕ
of_le [] = 0
of_le (b ∷ bs) = b + 256 * of_le bs
