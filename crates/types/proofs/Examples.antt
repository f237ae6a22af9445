-- Worked examples of the records of a block, computed. Assumes nothing.
use mathlib.Core.Path.{◌≡◌, refl}
use mathlib.Core.Bool.{true}
use mathlib.Core.List.{List, [], ◌∷◌, ◌++◌}
use mathlib.Core.Option.{none}
use Prim.Native.Nat.{ℕ}
use lib.ListN.{replicate}
use Rattle.laws.specs.Pick.{pick}
use Rattle.laws.specs.Bytes.{bytes_at, le, of_le}
use Rattle.laws.specs.Parse.{bad, got, then, raw, number, many, joined}
use Rattle.bincode.specs.Bincode.{bool, bool_bytes, option, vec, vec_bytes, byte_string, byte_string_bytes, exactly}
use Rattle.crypto.specs.Records.{digest, digest_bytes, signature, signature_bytes}
use Rattle.types.specs.declared.BlockReference.{BlockReference}
use Rattle.types.specs.Records.{reference, reference_bytes, vote, reject, share, statement, statement_bytes, BlockValue, block, block_bytes}

-- a number of 8 bytes that is below 256
small : ℕ → List ℕ
small n = n ∷ replicate 7 0

first : BlockReference
first = record { authority = 2; round = 5; digest = record { 0 = replicate 32 7 } }

first_bytes : List ℕ
first_bytes = small 2 ++ small 5 ++ small 32 ++ replicate 32 7

-- a reference and its 56 bytes; trailing bytes are ignored, a missing one is not
a_reference : (reference first_bytes 0 ≡ got first 56)
    × (reference (first_bytes ++ 1 ∷ 2 ∷ []) 0 ≡ got first 56)
    × (reference (small 2 ++ small 5 ++ small 32 ++ replicate 31 7) 0 ≡ bad)
    × (reference (small 2 ++ small 5 ++ small 31 ++ replicate 32 7) 0 ≡ bad)
    × (reference_bytes first ≡ first_bytes)
unfolding first first_bytes small reference reference_bytes digest digest_bytes exactly byte_string byte_string_bytes number raw then pick bytes_at of_le le
a_reference = (refl, refl, refl, refl, refl)

-- a vote: variant 1 without a locator; a tag of 2 and a variant of 2 are bad
a_vote : (vote (1 ∷ 0 ∷ 0 ∷ 0 ∷ 0 ∷ []) 0 ≡ got (reject none) 5)
    × (vote (1 ∷ 0 ∷ 0 ∷ 0 ∷ 2 ∷ []) 0 ≡ bad)
    × (vote (2 ∷ 0 ∷ 0 ∷ 0 ∷ []) 0 ≡ bad)
unfolding vote option bool number raw then pick bytes_at of_le
a_vote = (refl, refl, refl)

second : BlockValue
second =
    record {
      reference = record { authority = 1; round = 6; digest = record { 0 = replicate 32 9 } };
      includes = first ∷ [];
      statements = share (104 ∷ 105 ∷ []) ∷ [];
      time_low = 3;
      time_high = 4;
      epoch_marker = true;
      signature = record { 0 = replicate 64 8 };
    }

-- its bytes, but for the marker and the signature
second_head : List ℕ
second_head =
    small 1 ++ small 6 ++ small 32 ++ replicate 32 9
    ++ small 1 ++ first_bytes
    ++ small 1 ++ (0 ∷ 0 ∷ 0 ∷ 0 ∷ []) ++ small 2 ++ (104 ∷ 105 ∷ [])
    ++ small 3 ++ small 4

-- a block with one include and one Share; an epoch marker of 2 is bad
a_block : (block (second_head ++ (1 ∷ []) ++ small 64 ++ replicate 64 8 ++ (5 ∷ [])) 0 ≡ got second 231)
    × (block (second_head ++ (2 ∷ []) ++ small 64 ++ replicate 64 8) 0 ≡ bad)
    × (block_bytes second ≡ second_head ++ (1 ∷ []) ++ small 64 ++ replicate 64 8)
unfolding first first_bytes second second_head small block block_bytes reference reference_bytes digest digest_bytes signature signature_bytes statement statement_bytes vec vec_bytes many joined exactly byte_string byte_string_bytes bool bool_bytes number raw then pick bytes_at of_le le
a_block = (refl, refl, refl)
