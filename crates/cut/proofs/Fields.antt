-- The fields that an image shows where it has the log's bytes: those of an entry, and zeros in padding. Assumes nothing.
use mathlib.Core.Path.{◌≡◌, refl, ap, ◌∙◌}
use mathlib.Core.List.{List, [], ◌++◌, append_assoc}
use Prim.Native.Nat.{ℕ, ◌+◌, ◌-◌, ◌^◌, ◌≤◌, ◌<◌}
use native.Mathlib.Omega.{arith}
use lib.ListN.{length, take, drop, length-append}
use Rattle.laws.specs.Bytes.{bytes_at, zeros, le, of_le}
use Rattle.laws.proofs.LittleEndian.{length_le, of_le_le}
use Rattle.checksum.specs.Crc32.{crc32}
use Rattle.checksum.proofs.Crc32.{crc32_lt}
use Rattle.entry.specs.Entry.{entry_bytes, checksum_at, length_at, tag_at, payload_at}
use Rattle.cut.proofs.Lists.{part_past, same_parts, zeros_add}

module _ (image bytes : List ℕ) (c : ℕ) (same : take c image ≡ take c bytes) (p : ℕ) where
  part : (q n : ℕ) (a v b : List ℕ) → drop p bytes ≡ a ++ (v ++ b) → q ≡ p + length a → length v ≡ n → q + n ≤ c → bytes_at image q n ≡ v
  part q n a v b at e l h = same_parts image bytes c q n same h ∙ part_past bytes p q n a v b at e l

  -- ---- The fields of an entry

  module _ (tag : ℕ) (payload rest : List ℕ) (at : drop p bytes ≡ entry_bytes tag payload ++ rest) where
    pub checksum_read : p + 16 ≤ c → checksum_at image p ≡ crc32 payload
    unfolding checksum_at entry_bytes
    checksum_read h =
        ap of_le
        (part p 8 [] (le 8 (crc32 payload)) (le 4 (length payload + 16) ++ (le 4 tag ++ (payload ++ rest))) (at ∙ simp append_assoc)
        (omega arith) (length_le 8 (crc32 payload)) (omega arith))
        ∙ of_le_le 8 (crc32 payload) (omega (arith, crc32_lt payload))

    pub length_read : p + 16 ≤ c → length payload + 16 < 2 ^ 32 → length_at image p ≡ length payload + 16
    unfolding length_at entry_bytes
    length_read h small =
        ap of_le
        (part (p + 8) 4 (le 8 (crc32 payload)) (le 4 (length payload + 16)) (le 4 tag ++ (payload ++ rest)) (at ∙ simp append_assoc)
        (simp length_le) (length_le 4 (length payload + 16)) (omega arith))
        ∙ of_le_le 4 (length payload + 16) (omega arith)

    pub tag_read : p + 16 ≤ c → tag < 2 ^ 32 → tag_at image p ≡ tag
    unfolding tag_at entry_bytes
    tag_read h small =
        ap of_le
        (part (p + 12) 4 (le 8 (crc32 payload) ++ le 4 (length payload + 16)) (le 4 tag) (payload ++ rest) (at ∙ simp append_assoc)
        (simp (length-append, length_le)) (length_le 4 tag) (omega arith))
        ∙ of_le_le 4 tag (omega arith)

    pub payload_read : p + (length payload + 16) ≤ c → length payload + 16 < 2 ^ 32 → payload_at image p ≡ payload
    unfolding payload_at entry_bytes
    payload_read h small =
        part (p + 16) (length_at image p - 16) (le 8 (crc32 payload) ++ le 4 (length payload + 16) ++ le 4 tag) payload rest
        (at ∙ simp append_assoc) (simp (length-append, length_le)) (omega (arith, length_read (omega arith) small))
        (omega (arith, length_read (omega arith) small))

  -- ---- The fields of a header in padding

  module _ (n : ℕ) (rest : List ℕ) (at : drop p bytes ≡ zeros n ++ rest) (long : 16 ≤ n) (h : p + 16 ≤ c) where
    padding : zeros n ++ rest ≡ zeros 8 ++ (zeros 4 ++ (zeros (n - 12) ++ rest))
    padding =
        let e : n ≡ 8 + (4 + (n - 12)) = omega arith in
        ap (λ (m : ℕ). zeros m ++ rest) e ∙ simp (zeros_add 8, zeros_add 4, append_assoc)

    pub checksum_padding : checksum_at image p ≡ 0
    unfolding checksum_at zeros of_le
    checksum_padding =
        ap of_le (part p 8 [] (zeros 8) (zeros 4 ++ (zeros (n - 12) ++ rest)) (at ∙ padding) (omega arith) refl (omega arith))

    pub length_padding : length_at image p ≡ 0
    unfolding length_at zeros of_le
    length_padding =
        ap of_le (part (p + 8) 4 (zeros 8) (zeros 4) (zeros (n - 12) ++ rest) (at ∙ padding) refl refl (omega arith))
