-- How many bytes a record takes. Assumes nothing.
use mathlib.Core.Path.{◌≡◌, refl}
use mathlib.Core.Bool.{Bool, true}
use mathlib.Core.List.{List, ◌++◌}
use mathlib.Core.Option.{none, some}
use Prim.Native.Nat.{ℕ, ◌+◌}
use native.Mathlib.Omega.{arith}
use lib.ListN.{length, length-append}
use Rattle.laws.specs.Pick.{pick}
use Rattle.laws.specs.Bytes.{le}
use Rattle.laws.proofs.LittleEndian.{length_le}
use Rattle.bincode.specs.Bincode.{bool_bytes, option_bytes, byte_string_bytes}
use Rattle.crypto.specs.declared.BlockDigest.{BlockDigest}
use Rattle.crypto.specs.declared.SignatureBytes.{SignatureBytes}
use Rattle.crypto.specs.Records.{digest_bytes, signature_bytes}
use Rattle.types.specs.declared.BlockReference.{BlockReference}
use Rattle.types.specs.declared.TransactionLocator.{TransactionLocator}
use Rattle.types.specs.declared.TransactionLocatorRange.{TransactionLocatorRange}
use Rattle.types.specs.Records.{reference_bytes, locator_bytes, range_bytes, accept, reject, vote_bytes}

pub length_bool : (b : Bool) → length (bool_bytes b) ≡ 1
unfolding bool_bytes
length_bool b = length_le 1 (pick b 1 0)

pub length_counted : (n : ℕ) (v : List ℕ) → length (le 8 n ++ v) ≡ 8 + length v
length_counted n v = omega (arith, length-append (le 8 n) v, length_le 8 n)

pub length_digest : (d : BlockDigest) → length (digest_bytes d) ≡ 8 + length d.0
unfolding digest_bytes byte_string_bytes
length_digest d = length_counted (length d.0) d.0

pub length_signature : (b : SignatureBytes) → length (signature_bytes b) ≡ 8 + length b.0
unfolding signature_bytes byte_string_bytes
length_signature b = length_counted (length b.0) b.0

pub length_reference : (r : BlockReference) → length (reference_bytes r) ≡ 16 + length (digest_bytes r.digest)
unfolding reference_bytes
length_reference r =
    let a = le 8 r.authority in
    let b = le 8 r.round in
    omega (arith, length-append (a ++ b) (digest_bytes r.digest), length-append a b, length_le 8 r.authority, length_le 8 r.round)

pub length_locator : (l : TransactionLocator) → length (locator_bytes l) ≡ length (reference_bytes l.block) + 8
unfolding locator_bytes
length_locator l = omega (arith, length-append (reference_bytes l.block) (le 8 l.offset), length_le 8 l.offset)

pub length_range : (r : TransactionLocatorRange) → length (range_bytes r) ≡ length (reference_bytes r.block) + 16
unfolding range_bytes
length_range r =
    let b = reference_bytes r.block in
    let from = le 8 r.offset_start_inclusive in
    let to = le 8 r.offset_end_exclusive in
    omega (arith, length-append (b ++ from) to, length-append b from, length_le 8 r.offset_start_inclusive, length_le 8 r.offset_end_exclusive)

pub length_accept : length (vote_bytes accept) ≡ 4
unfolding vote_bytes
length_accept = length_le 4 0

pub length_reject : length (vote_bytes (reject none)) ≡ 5
unfolding vote_bytes option_bytes bool_bytes le
length_reject = refl

pub length_reject_other : (l : TransactionLocator) → length (vote_bytes (reject (some l))) ≡ 5 + length (locator_bytes l)
unfolding vote_bytes option_bytes
length_reject_other l =
    omega (arith, length-append (le 4 1) (bool_bytes true ++ locator_bytes l), length-append (bool_bytes true) (locator_bytes l), length_le 4 1, length_bool true)

-- ---- Records whose digests have their 32 bytes

pub reference_size : (r : BlockReference) → length r.digest.0 ≡ 32 → length (reference_bytes r) ≡ 56
reference_size r h = omega (arith, length_reference r, length_digest r.digest)

pub locator_size : (l : TransactionLocator) → length l.block.digest.0 ≡ 32 → length (locator_bytes l) ≡ 64
locator_size l h = omega (arith, length_locator l, reference_size l.block h)

pub range_size : (r : TransactionLocatorRange) → length r.block.digest.0 ≡ 32 → length (range_bytes r) ≡ 72
range_size r h = omega (arith, length_range r, reference_size r.block h)

pub reject_other_size : (l : TransactionLocator) → length l.block.digest.0 ≡ 32 → length (vote_bytes (reject (some l))) ≡ 69
reject_other_size l h = omega (arith, length_reject_other l, locator_size l h)
