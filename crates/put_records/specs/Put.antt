-- For the proofs alone; no promise is stated with it. What a store of a record into a buffer does.
use Rattle.std.specs.Prelude.{◌≡◌, List, ℕ, ◌+◌, length}
use Rattle.laws.specs.Bytes.{written}

-- the bytes v were written into s at p, which made it t, and e is the place behind them
pub record Put (s : List ℕ) (p : ℕ) (v : List ℕ) (t : List ℕ) (e : ℕ) : Type 0 where
  pub bytes : t ≡ written s p v
  pub end : e ≡ p + length v
