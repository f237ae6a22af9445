-- What an encoder answers, and what it leaves in the buffer that it is lent. It is given the bytes to write, or none where what its
-- caller gave is no record.
use Rattle.std.specs.Prelude.{◌≡◌, List, ℕ, ◌+◌, leb, length, Result, Ok, Err}
use Rattle.std.proofs.Math.Option.{Option, none, some}
use Rattle.laws.specs.Pick.{pick}
use Rattle.laws.specs.Bytes.{written}
use Rattle.encode.specs.declared.EncodeError.{EncodeError}
use Rattle.encode.specs.declared.EncodeError.TheVariants.{NoRoom, Malformed}

-- the place behind the bytes, where they fit into the buffer from `at` on
unfoldable pub answer_at : List ℕ → ℕ → Option (List ℕ) → Result ℕ EncodeError
answer_at out at none = Err Malformed
answer_at out at (some v) = pick (leb (at + length v) (length out)) (Ok (at + length v)) (Err NoRoom)

-- the buffer with the bytes from `at` on, where they fit; otherwise the buffer as it was
unfoldable pub encoded_at : List ℕ → ℕ → Option (List ℕ) → List ℕ
encoded_at out at none = out
encoded_at out at (some v) = pick (leb (at + length v) (length out)) (written out at v) out

pub record Encodes (out : List ℕ) (at : ℕ) (v : Option (List ℕ)) (answer : Result ℕ EncodeError) (after : List ℕ) : Type 0 where
  pub answers : answer ≡ answer_at out at v
  pub bytes : after ≡ encoded_at out at v
