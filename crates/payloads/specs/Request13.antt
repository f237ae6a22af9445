-- What is proved of the list. Document 02, Req 13: "Prove that the list is complete, ordered and without repeats, and that each, encoded
-- again, gives its own bytes."
use Rattle.std.specs.Prelude.{◌≡◌, ℕ, ◌≤◌, ◌<◌, length, get_or, Result, Ok}
use mathlib.Core.List.{List, [], Memᴰ as In}
use Rattle.std.proofs.Math.Option.{some}
use Rattle.laws.specs.Bytes.{written}
use Rattle.encode.specs.declared.EncodeError.{EncodeError}
use Rattle.payloads.specs.Small.{SmallPayload, Before, small_payloads, small_text, ListSmall, encoded_again, PayloadAgain}

-- l has every small payload and nothing else, each before all that stand behind it
pub record Lists (l : List (List ℕ)) : Type 0 where
  pub complete : (s : List ℕ) → SmallPayload s → In s l
  pub sound : (s : List ℕ) → In s l → SmallPayload s
  pub ordered : (i j : ℕ) → i < j → j < length l → Before (get_or l i []) (get_or l j [])

-- every call of `payload_again` on s with room for s answers the length of s and leaves s at the buffer's start, and behind it what was
-- there
abbrev pub EncodesToItself : List ℕ → Type 0
EncodesToItself s =
    (out : List ℕ) (r : Result ℕ EncodeError) (after : List ℕ) → length s ≤ length out → PayloadAgain s out r after
    → (r ≡ Ok (length s)) × (after ≡ written out 0 s)

pub record Request13 : Type 0 where
  -- "each payload of at most 21 bytes that decodes without trailing bytes, by length and then by unsigned byte order"; "complete, ordered"
  pub lists : Lists small_payloads
  -- "without repeats"
  pub distinct : (i j : ℕ) → i < j → j < length small_payloads → get_or small_payloads i [] ≡ get_or small_payloads j [] → ⊥
  -- "258 in all"
  pub count : length small_payloads ≡ 258
  -- "each, encoded again, gives its own bytes", by the layout and by the call
  pub again : (s : List ℕ) → In s small_payloads → encoded_again s ≡ some s
  pub again_called : (s : List ℕ) → In s small_payloads → EncodesToItself s
  -- "A program writes": every call of `list_small` on a buffer of 11,066 bytes, as the program's is, leaves the whole text in it
  pub text : (out : List ℕ) (r : ℕ) (after : List ℕ) → length out ≡ 11066 → ListSmall out r after → (r ≡ 11066) × (after ≡ small_text)
  -- the request's words leave no choice: no other list meets them
  pub only : (l : List (List ℕ)) → Lists l → l ≡ small_payloads
