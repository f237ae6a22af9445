-- The bytes that stand for an own block and for a commit. Assumes nothing.
use mathlib.Core.Path.{◌≡◌}
use mathlib.Core.Bool.{Bool, true}
use mathlib.Core.List.{List, ◌++◌}
use mathlib.Core.Option.{some}
use Prim.Native.Nat.{ℕ, ◌+◌}
use native.Mathlib.Omega.{arith}
use lib.ListN.{length, length-append}
use Rattle.laws.specs.Bytes.{le, AllBytes}
use Rattle.laws.specs.Parse.{many}
use Rattle.bincode.specs.Bincode.{byte_string_bytes}
use Rattle.types.specs.declared.BlockReference.{BlockReference}
use Rattle.types.specs.Records.{reference, reference_bytes, block}
use Rattle.commits.specs.Records.{own_block_bytes, commit_data, commit_data_bytes, commit_bytes}
use Rattle.put_records.proofs.Lengths.{length_counted, reference_size}
use Rattle.roundtrip.proofs.Blocks.{reference_inverse, block_inverse}
use Rattle.roundtrip.proofs.Commits.{commit_data_inverse}
use Rattle.roundtrip.proofs.Wholes.{record_bytes, list_bytes}
use Rattle.encode_blocks.specs.Whole.{whole, is_whole, laid_out}
use Rattle.encode_blocks.proofs.Wholes.{whole_some}
use Rattle.encode_commits.specs.Commits.{own_block_with, commit_data_with, commit_with}

pub own_block_laid : (n : ℕ) (s : List ℕ) {test : Bool} → test ≡ is_whole block s → test ≡ true → AllBytes s
    → laid_out (own_block_with n) (whole block s) ≡ some (le 8 n ++ s)
unfolding own_block_bytes
own_block_laid n s told t bytes =
    let w = whole_some block s told t in
    rw (w.2, record_bytes block_inverse s bytes w.1)

pub commit_data_laid : (l : BlockReference) (n : ℕ) (s : List ℕ) {test : Bool} → test ≡ is_whole (many reference n) s → test ≡ true → AllBytes s
    → laid_out (commit_data_with l) (whole (many reference n) s) ≡ some (reference_bytes l ++ (le 8 n ++ s))
unfolding commit_data_bytes
commit_data_laid l n s told t bytes =
    let w = whole_some (many reference n) s told t in
    rw (w.2, list_bytes reference_inverse s bytes n w.1)

pub commit_data_size : (l : BlockReference) (n : ℕ) (s : List ℕ) → length l.digest.0 ≡ 32
    → length (reference_bytes l ++ (le 8 n ++ s)) ≡ 64 + length s
commit_data_size l n s h = omega (arith, length-append (reference_bytes l) (le 8 n ++ s), reference_size l h, length_counted n s)

pub commit_laid : (state : List ℕ) (n : ℕ) (s : List ℕ) {test : Bool} → test ≡ is_whole (many commit_data n) s → test ≡ true → AllBytes s
    → laid_out (commit_with state) (whole (many commit_data n) s) ≡ some ((le 8 n ++ s) ++ (le 8 (length state) ++ state))
unfolding commit_bytes byte_string_bytes
commit_laid state n s told t bytes =
    let w = whole_some (many commit_data n) s told t in
    rw (w.2, list_bytes commit_data_inverse s bytes n w.1)

pub commit_size : (state : List ℕ) (n : ℕ) (s : List ℕ)
    → length ((le 8 n ++ s) ++ (le 8 (length state) ++ state)) ≡ 16 + length s + length state
commit_size state n s =
    omega (arith, length-append (le 8 n ++ s) (le 8 (length state) ++ state), length_counted n s, length_counted (length state) state)
