-- Text written into a buffer of fixed length: what does not fit is left out. Assumes nothing.
use Rattle.std.specs.Prelude.{ℕ, ◌+◌, ◌-◌, List, ◌++◌, length, take, drop}

-- s with v written over it from index p on, as far as s reaches. Where p is not below the length of s, it is s.
unfoldable pub clipped : List ℕ → ℕ → List ℕ → List ℕ
clipped s p v = take p s ++ take (length s - p) v ++ drop (p + length v) s
