-- The elements of the list as they are made, one by one, and the length of the text. Assumes nothing.
use mathlib.Core.Path.{◌≡◌, refl, sym, ap, ◌∙◌}
use mathlib.Core.Bool.{true}
use mathlib.Core.List.{List, [], ◌∷◌, ◌++◌, append-nil}
use Prim.Native.Nat.{ℕ, suc, ◌+◌, ◌≤◌, ◌<◌}
use native.Mathlib.Nat.{zero-add}
use native.Mathlib.Omega.{arith}
use borrow.Author.Tests.{eq-eqb}
use lib.ListN.{length, take, drop, get_or, length-append, take-append-drop, drop_of_length-le}
use Rattle.laws.specs.Bytes.{le}
use Rattle.laws.specs.Numbers.{numbers_from}
use Rattle.laws.specs.Parse.{answer, many, joined}
use Rattle.laws.proofs.Numbers.{get_or_numbers}
use Rattle.laws.proofs.Parses.{joined_append}
use Rattle.bincode.specs.Bincode.{vec_bytes, byte_string_bytes}
use Rattle.text.specs.Clipped.{clipped}
use Rattle.text.specs.Digits.{hex_digits, hex_bytes}
use Rattle.text.proofs.Clipped.{clipped_fits}
use Rattle.types.specs.Records.{share, statement, statement_bytes, payload_bytes}
use Rattle.roundtrip.specs.Valid.{ValidBytes, nil, more, shares}
use Rattle.roundtrip.proofs.Blocks.{statement_inverse}
use Rattle.roundtrip.proofs.Wholes.{many_whole}
use Rattle.encode_blocks.specs.Whole.{is_whole}
use Rattle.payloads.specs.Small.{share_payload, small_payloads, payload_line, small_text, ListSmall}

-- a Share by itself is one statement and nothing else
pub share_whole : (bytes : List ℕ) → ValidBytes bytes → is_whole (many statement 1) (statement_bytes (share bytes)) ≡ true
unfolding is_whole answer joined
share_whole bytes few =
    let n = length (statement_bytes (share bytes)) in
    let found = rw append-nil at (many_whole statement_inverse (more (shares {bytes = bytes} few) nil)) in
    rw found (eq-eqb n n refl)

-- and behind a count of 1 the payload
pub share_counted : (bytes : List ℕ) → le 8 1 ++ statement_bytes (share bytes) ≡ share_payload bytes
unfolding share_payload payload_bytes vec_bytes joined
share_counted bytes = rw append-nil

pub none_whole : is_whole (many statement 0) [] ≡ true
unfolding is_whole answer many
none_whole = refl

pub small_none : get_or small_payloads 0 [] ≡ le 8 0 ++ []
unfolding small_payloads payload_bytes vec_bytes joined
small_none = refl

pub small_empty : get_or small_payloads 1 [] ≡ share_payload []
unfolding small_payloads
small_empty = refl

-- behind the first two stand the Shares of one byte
pub small_share : (i : ℕ) → i < 256 → get_or small_payloads (suc (suc i)) [] ≡ share_payload (i ∷ [])
unfolding small_payloads
small_share i h =
    let share : ℕ → List ℕ = λ b. share_payload (b ∷ []) in
    get_or_numbers share 0 256 i [] h ∙ ap share (zero-add i)

pub text_length : length small_text ≡ 11066
unfolding small_text small_payloads numbers_from share_payload payload_bytes vec_bytes statement_bytes byte_string_bytes joined le payload_line hex_bytes hex_digits
text_length = refl

-- a buffer of that length has the text after the call, and nothing else
pub text_whole : {out after : List ℕ} {r : ℕ} → length out ≡ 11066 → ListSmall out r after → (r ≡ 11066) × (after ≡ small_text)
text_whole {out} size put =
    let end = 0 + length small_text in
    let rest : drop end out ≡ [] = drop_of_length-le out {i = end} (omega (arith, text_length)) in
    let all : clipped out 0 small_text ≡ small_text ++ drop end out = clipped_fits out 0 small_text (omega (arith, text_length)) in
    (omega (arith, put.next, text_length), put.bytes ∙ all ∙ ap (λ (l : List ℕ). small_text ++ l) rest ∙ append-nil small_text)

-- the first lines are no longer than all
pub lines_at_most : (i : ℕ) → length (joined payload_line (take i small_payloads)) ≤ 11066
unfolding small_text
lines_at_most i =
    let first = take i small_payloads in
    let rest = drop i small_payloads in
    let all : joined payload_line first ++ joined payload_line rest ≡ joined payload_line small_payloads =
    sym (joined_append payload_line first rest) ∙ ap (joined payload_line) (take-append-drop i small_payloads) in
    omega (arith, ap length all, length-append (joined payload_line first) (joined payload_line rest), text_length)
