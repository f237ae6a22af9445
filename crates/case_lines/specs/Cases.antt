-- Numbers and parts of a case's bytes, and a reference as bytes. Assumes nothing.
use Rattle.std.specs.Prelude.{ℕ, ◌+◌, ◌-◌, Option, Some, None, List, [], ◌++◌, leb, ltb, length, take, drop, replicate}
use Rattle.laws.specs.Bytes.{le}
use Rattle.laws.specs.Parse.{number, answer}
use Rattle.laws.specs.Pick.{pick}
use Rattle.types.specs.declared.BlockReference.{BlockReference}

-- the sum, or a where it has more than 64 bits
unfoldable pub sum_of : ℕ → ℕ → ℕ
sum_of a b = pick (ltb (0xffffffffffffffff - a) b) a (a + b)

-- the bytes from a up to e, or none where they are not all there
unfoldable pub part_of : List ℕ → ℕ → ℕ → List ℕ
part_of s a e = pick (leb a e) (pick (leb e (length s)) (take (e - a) (drop a s)) []) []

-- the number of 8 bytes at p, 0 where there is none
unfoldable pub number_at : List ℕ → ℕ → ℕ
number_at s p = answer 0 (λ n e. n) (number 8 s p)

-- the place behind the bytes whose length stands at p
unfoldable pub behind_of : List ℕ → ℕ → ℕ
behind_of s p = sum_of (sum_of p 8) (number_at s p)

-- the bytes behind their length at p
unfoldable pub bytes_of : List ℕ → ℕ → List ℕ
bytes_of s p = part_of s (sum_of p 8) (behind_of s p)

-- whether a reference is there, authority and round, each in 8 bytes, and the digest; zeros where there is none
unfoldable pub found_reference_bytes : Option BlockReference → List ℕ
found_reference_bytes None = replicate 56 0
found_reference_bytes (Some r) = le 8 1 ++ le 8 r.authority ++ le 8 r.round ++ r.digest.0
