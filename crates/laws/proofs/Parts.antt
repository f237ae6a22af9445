-- A part of a slice, as its place and its number of bytes. Assumes nothing.
use mathlib.Core.Path.{◌≡◌, ap}
use mathlib.Core.List.{List}
use Prim.Native.Nat.{ℕ, ◌+◌, ◌-◌}
use native.Mathlib.Omega.{arith}
use lib.ListN.{take, drop}
use Rattle.laws.specs.Bytes.{bytes_at}

pub part_is : (s : List ℕ) (p n : ℕ) → take (p + n - p) (drop p s) ≡ bytes_at s p n
unfolding bytes_at
part_is s p n = let e : p + n - p ≡ n = omega arith in ap (λ (m : ℕ). take m (drop p s)) e
