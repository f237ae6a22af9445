-- bincode 1.3's default function, as document 01 has it ("Records"): "u64 counts, u32 variants, one-byte bool and Option (only 0 and 1),
-- no varints, trailing bytes ignored". Each rule stands twice: the parser, to which decoders are held, and the layout, to which
-- encoders are. A number of w bytes is `number w` and `le w`; a variant is a number of 4 bytes, and each enum names its own.
use Rattle.std.specs.Prelude.{Bool, true, false, List, ◌++◌, ℕ, length, leb, eqb}
use Rattle.std.proofs.Math.Option.{Option, none, some}
use Rattle.laws.specs.Pick.{pick}
use Rattle.laws.specs.Bytes.{le}
use Rattle.laws.specs.Parse.{Parser, bad, got, then, raw, number, many, joined}

-- "one-byte bool (only 0 and 1)"
unfoldable pub bool : Parser Bool
bool s p = then (number 1 s p) (λ b e. pick (leb b 1) (got (eqb b 1) e) bad)

unfoldable pub bool_bytes : Bool → List ℕ
bool_bytes b = le 1 (pick b 1 0)

-- "one-byte Option (only 0 and 1)": the value stands behind a 1
unfoldable pub option : {A : Type 0} → Parser A → Parser (Option A)
option f s p = then (bool s p) (λ there e. pick there (then (f s e) (λ x q. got (some x) q)) (got none e))

unfoldable pub option_bytes : {A : Type 0} → (A → List ℕ) → Option A → List ℕ
option_bytes f none = bool_bytes false
option_bytes f (some x) = bool_bytes true ++ f x

-- "u64 counts": a list is its count and its elements
unfoldable pub vec : {A : Type 0} → Parser A → Parser (List A)
vec f s p = then (number 8 s p) (λ n e. many f n s e)

unfoldable pub vec_bytes : {A : Type 0} → (A → List ℕ) → List A → List ℕ
vec_bytes f xs = le 8 (length xs) ++ joined f xs

-- a byte string is its count and its bytes
unfoldable pub byte_string : Parser (List ℕ)
byte_string s p = then (number 8 s p) (λ n e. raw n s e)

unfoldable pub byte_string_bytes : List ℕ → List ℕ
byte_string_bytes bytes = le 8 (length bytes) ++ bytes

-- a byte string that must have k bytes; its layout is that of any byte string
unfoldable pub exactly : ℕ → Parser (List ℕ)
exactly k s p = then (byte_string s p) (λ bytes e. pick (eqb (length bytes) k) (got bytes e) bad)
