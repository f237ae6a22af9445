-- Lists of bytes: parts of one, two joined, and a number's bytes. Assumes nothing.
use mathlib.Core.List.{List, [], ◌∷◌, ◌++◌}
use Prim.Native.Nat.{ℕ, zero, suc, ◌/◌}
use native.Mathlib.Omega.{arith}
use lib.Dec.{lit<}
use lib.ListN.{take, drop}
use Rattle.laws.specs.Bytes.{AllBytes, bytes_at, le}

bytes_drop : (p : ℕ) (l : List ℕ) → AllBytes l → AllBytes (drop p l)
bytes_drop zero l h = h
bytes_drop (suc p) [] h = h
bytes_drop (suc p) (b ∷ l) h = bytes_drop p l (λ i. h (suc i))

bytes_take : (n : ℕ) (l : List ℕ) → AllBytes l → AllBytes (take n l)
bytes_take zero l h i = lit< tt
bytes_take (suc n) [] h i = h i
bytes_take (suc n) (b ∷ l) h zero = h 0
bytes_take (suc n) (b ∷ l) h (suc i) = bytes_take n l (λ j. h (suc j)) i

pub bytes_part : (l : List ℕ) (p n : ℕ) → AllBytes l → AllBytes (bytes_at l p n)
unfolding bytes_at
bytes_part l p n h = bytes_take n (drop p l) (bytes_drop p l h)

pub bytes_joined : (a b : List ℕ) → AllBytes a → AllBytes b → AllBytes (a ++ b)
bytes_joined [] b h k i = k i
bytes_joined (x ∷ a) b h k zero = h 0
bytes_joined (x ∷ a) b h k (suc i) = bytes_joined a b (λ j. h (suc j)) k i

pub bytes_le : (w x : ℕ) → AllBytes (le w x)
unfolding le
bytes_le zero x i = lit< tt
bytes_le (suc w) x zero = omega arith
bytes_le (suc w) x (suc i) = bytes_le w (x / 256) i
