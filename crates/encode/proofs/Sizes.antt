-- How many bytes a statement takes. Assumes nothing.
use mathlib.Core.Path.{◌≡◌}
use mathlib.Core.List.{List, ◌++◌}
use Prim.Native.Nat.{ℕ, ◌+◌}
use native.Mathlib.Omega.{arith}
use lib.ListN.{length, length-append}
use Rattle.laws.specs.Bytes.{le}
use Rattle.laws.proofs.LittleEndian.{length_le}
use Rattle.bincode.specs.Bincode.{byte_string_bytes}
use Rattle.types.specs.declared.TransactionLocator.{TransactionLocator}
use Rattle.types.specs.declared.TransactionLocatorRange.{TransactionLocatorRange}
use Rattle.types.specs.Records.{locator_bytes, range_bytes, VoteValue, vote_bytes, share, vote_on, vote_range, statement_bytes}
use Rattle.put_records.proofs.Lengths.{length_counted}

pub share_size : (bytes : List ℕ) → length (statement_bytes (share bytes)) ≡ 12 + length bytes
unfolding statement_bytes byte_string_bytes
share_size bytes =
    omega (arith, length-append (le 4 0) (le 8 (length bytes) ++ bytes), length_le 4 0, length_counted (length bytes) bytes)

pub vote_on_length : (l : TransactionLocator) (v : VoteValue)
    → length (statement_bytes (vote_on l v)) ≡ 4 + length (locator_bytes l) + length (vote_bytes v)
unfolding statement_bytes
vote_on_length l v =
    omega (arith, length-append (le 4 1 ++ locator_bytes l) (vote_bytes v), length-append (le 4 1) (locator_bytes l), length_le 4 1)

pub vote_range_length : (r : TransactionLocatorRange) → length (statement_bytes (vote_range r)) ≡ 4 + length (range_bytes r)
unfolding statement_bytes
vote_range_length r = omega (arith, length-append (le 4 2) (range_bytes r), length_le 4 2)
