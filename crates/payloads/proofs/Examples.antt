-- The list's first and last payload with their lines, and the lengths of all, by computation. Assumes nothing.
use mathlib.Core.Path.{◌≡◌, refl}
use mathlib.Core.List.{[], ◌∷◌, ◌++◌, map}
use lib.ListN.{length, get_or, replicate}
use Rattle.laws.specs.Ascii.{ascii, line_feed}
use Rattle.laws.specs.Bytes.{le}
use Rattle.laws.specs.Numbers.{numbers_from}
use Rattle.laws.specs.Parse.{joined}
use Rattle.bincode.specs.Bincode.{vec_bytes, byte_string_bytes}
use Rattle.text.specs.Digits.{hex_digit, hex_digits, hex_bytes}
use Rattle.types.specs.Records.{statement_bytes, payload_bytes}
use Rattle.payloads.specs.Small.{share_payload, small_payloads, payload_line}

-- no statement: a count of 0
first : get_or small_payloads 0 [] ≡ 0 ∷ 0 ∷ 0 ∷ 0 ∷ 0 ∷ 0 ∷ 0 ∷ 0 ∷ []
unfolding small_payloads payload_bytes vec_bytes joined le
first = refl

-- a count of 1, the variant 0 and a count of 1, and the byte 255
last : get_or small_payloads 257 []
    ≡ 1 ∷ 0 ∷ 0 ∷ 0 ∷ 0 ∷ 0 ∷ 0 ∷ 0 ∷ 0 ∷ 0 ∷ 0 ∷ 0 ∷ 1 ∷ 0 ∷ 0 ∷ 0 ∷ 0 ∷ 0 ∷ 0 ∷ 0 ∷ 255 ∷ []
unfolding small_payloads numbers_from share_payload payload_bytes vec_bytes statement_bytes byte_string_bytes joined le
last = refl

-- one of 8 bytes, one of 20 and 256 of 21
lengths : map length small_payloads ≡ 8 ∷ 20 ∷ replicate 256 21
unfolding small_payloads numbers_from share_payload payload_bytes vec_bytes statement_bytes byte_string_bytes joined le
lengths = refl

first_line : payload_line (get_or small_payloads 0 []) ≡ ascii "0000000000000000" ++ (line_feed ∷ [])
unfolding small_payloads payload_bytes vec_bytes joined le payload_line hex_bytes hex_digits hex_digit ascii
first_line = refl

last_line : payload_line (get_or small_payloads 257 []) ≡ ascii "0100000000000000000000000100000000000000ff" ++ (line_feed ∷ [])
unfolding small_payloads numbers_from share_payload payload_bytes vec_bytes statement_bytes byte_string_bytes joined le payload_line hex_bytes hex_digits hex_digit ascii
last_line = refl
