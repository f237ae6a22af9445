-- References have one width, so that the i-th of a list is found at once. Assumes nothing.
use mathlib.Core.Path.{◌≡◌}
use mathlib.Core.List.{List}
use Prim.Native.Nat.{ℕ, ◌+◌, ◌*◌, ◌<◌}
use native.Mathlib.Omega.{arith}
use lib.ListN.{length, get_or}
use Rattle.laws.specs.Parse.{bad, got, then, number, many}
use Rattle.laws.proofs.Parses.{then_found, number_found, number_bad, many_length, many_width, many_at}
use Rattle.bincode.specs.Bincode.{exactly, vec}
use Rattle.bincode.proofs.Rules.{exactly_end}
use Rattle.crypto.specs.declared.BlockDigest.{BlockDigest}
use Rattle.crypto.specs.Records.{digest}
use Rattle.types.specs.declared.BlockReference.{BlockReference}
use Rattle.types.specs.Records.{reference}

digest_width : (s : List ℕ) (p : ℕ) (d : BlockDigest) (e : ℕ) → digest s p ≡ got d e → e ≡ p + 40
unfolding digest
digest_width s p d e h =
    let a = then_found (exactly 32 s p) h in
    let g : got (record { 0 = a.0 }) a.1 ≡ got d e = a.3 in
    let end : e ≡ a.1 = cc in
    omega (arith, exactly_end 32 s p a.2)

-- two numbers and a digest: 8 + 8 + 8 + 32 bytes
pub reference_width : (s : List ℕ) (p : ℕ) (r : BlockReference) (e : ℕ) → reference s p ≡ got r e → e ≡ p + 56
unfolding reference
reference_width s p r e h =
    let a = then_found (number 8 s p) h in
    let b = then_found (number 8 s a.1) a.3 in
    let d = then_found (digest s b.1) b.3 in
    let g : got (record { authority = a.0; round = b.0; digest = d.0 }) d.1 ≡ got r e = d.3 in
    let end : e ≡ d.1 = cc in
    omega (arith, (number_found 8 s p a.2).end, (number_found 8 s a.1 b.2).end, digest_width s b.1 d.0 d.1 d.2)

-- past the end there is none
pub reference_past : (s : List ℕ) (p : ℕ) → length s < p → reference s p ≡ bad
unfolding reference then
reference_past s p h = rw (number_bad 8 s p (omega arith))

-- where a list of references ends, and where its i-th stands
pub references_end : (s : List ℕ) (n p : ℕ) {rs : List BlockReference} {e : ℕ} → many reference n s p ≡ got rs e → e ≡ p + 56 * n
references_end s n p h = many_width reference s 56 (reference_width s) n p h

pub include_at : (s : List ℕ) (i n p : ℕ) {rs : List BlockReference} {e : ℕ} → many reference n s p ≡ got rs e → (d : BlockReference) → i < n
    → reference s (p + 56 * i) ≡ got (get_or rs i d) (p + 56 * (i + 1))
include_at s i n p h d l = many_at reference s 56 (reference_width s) i n p h d l

-- a list of references behind its count
pub references_listed : (s : List ℕ) (p : ℕ) {rs : List BlockReference} {e : ℕ} → vec reference s p ≡ got rs e → e ≡ p + 8 + 56 * length rs
unfolding vec
references_listed s p {rs} {e} h =
    let a = then_found (number 8 s p) h in
    let n : length rs ≡ a.0 = many_length reference s a.0 a.1 a.3 in
    omega (arith, (number_found 8 s p a.2).end, references_end s a.0 a.1 a.3)
