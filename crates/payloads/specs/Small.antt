-- The small payloads: their order, their list, their text, and what each is encoded to again. Document 02, Req 13: "A program writes, in
-- lower-case hex, one a line, each payload of at most 21 bytes that decodes without trailing bytes, by length and then by unsigned byte
-- order: 258 in all."
use Rattle.std.specs.Prelude.{◌≡◌, ◌⊎◌, List, [], ◌∷◌, ◌++◌, map, ℕ, ◌≤◌, ◌<◌, length, Result}
use Rattle.std.proofs.Math.Option.{Option, none, some}
use Rattle.laws.specs.Ascii.{line_feed}
use Rattle.laws.specs.Bytes.{AllBytes}
use Rattle.laws.specs.Numbers.{numbers_from}
use Rattle.laws.specs.Parse.{got, answer, joined}
use Rattle.text.specs.Digits.{hex_bytes}
use Rattle.text.specs.Put.{Put}
use Rattle.types.specs.Records.{StatementValue, share, payload, payload_bytes}
use Rattle.encode.specs.declared.EncodeError.{EncodeError}
use Rattle.encode.specs.Encoding.{Encodes}
use Rattle.std.specs.declared.cmp.Ordering.TheVariants.{Less}
use Rattle.rows.specs.Rows.{compared}

-- "payload of at most 21 bytes that decodes without trailing bytes": bytes all of which the parser of a payload takes, from the first to
-- the last (document 01, "Records": "2 payload (list of statements)")
pub record SmallPayload (s : List ℕ) : Type 0 where
  pub bytes : AllBytes s
  pub short : length s ≤ 21
  pub statements : List StatementValue
  pub decodes : payload s 0 ≡ got statements (length s)

-- "by length and then by unsigned byte order": the shorter comes first, and of two that have the same length the one with the lower byte
-- where they first differ
abbrev pub Before : List ℕ → List ℕ → Type 0
Before s t = (length s < length t) ⊎ ((length s ≡ length t) × (compared s t ≡ Less))

-- ---- The list

-- the payload whose only statement is a Share of these bytes
unfoldable pub share_payload : List ℕ → List ℕ
share_payload bytes = payload_bytes (share bytes ∷ [])

-- "each payload": the one without statements, the one with an empty Share, and for each byte the one with a Share of that byte. That
-- there is no other is the field `complete` of Request13.
unfoldable pub small_payloads : List (List ℕ)
small_payloads = payload_bytes [] ∷ share_payload [] ∷ map (λ b. share_payload (b ∷ [])) (numbers_from 0 256)

-- ---- The text

-- "in lower-case hex, one a line"
unfoldable pub payload_line : List ℕ → List ℕ
payload_line s = hex_bytes s ++ (line_feed ∷ [])

unfoldable pub small_text : List ℕ
small_text = joined payload_line small_payloads

-- what `list_small` is held to: the answer r, and what a buffer that held `out` holds after the call
abbrev pub ListSmall : List ℕ → ℕ → List ℕ → Type 0
ListSmall out r after = Put 0 small_text out after r

-- ---- Encoded again

-- the payload that stands at the start of s, laid out again; nothing where there is none. Bytes behind it do not count ("trailing bytes
-- ignored", document 01).
unfoldable pub encoded_again : List ℕ → Option (List ℕ)
encoded_again s = answer none (λ statements e. some (payload_bytes statements)) (payload s 0)

-- what `payload_again` is held to, of the bytes s: the answer r, and what a buffer that held `out` holds after the call
abbrev pub PayloadAgain : List ℕ → List ℕ → Result ℕ EncodeError → List ℕ → Type 0
PayloadAgain s out r after = Encodes out 0 (encoded_again s) r after
