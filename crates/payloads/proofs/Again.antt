-- A payload decoded and encoded again. Assumes nothing.
use mathlib.Core.Path.{◌≡◌, refl, sym, ap, ◌∙◌}
use mathlib.Core.List.{List}
use mathlib.Core.Option.{none, some}
use Prim.Native.Nat.{ℕ, ◌-◌, ◌≤◌}
use native.Mathlib.Nat.{zero-add}
use native.Mathlib.Omega.{arith}
use borrow.Author.Tests.{eq-eqb}
use lib.ListN.{length, take, drop}
use Rattle.laws.specs.Pick.{pick}
use Rattle.laws.specs.Bytes.{bytes_at, AllBytes, le}
use Rattle.laws.specs.Parse.{bad, got, answer, many, joined}
use Rattle.bincode.specs.Bincode.{vec_bytes}
use Rattle.types.specs.Records.{StatementValue, statement, statement_bytes, payload, payload_bytes}
use Rattle.roundtrip.proofs.Blocks.{statement_inverse, payload_inverse}
use Rattle.roundtrip.proofs.Spans.{right, between}
use Rattle.roundtrip.proofs.Wholes.{many_whole}
use Rattle.encode.proofs.Encodings.{fitted}
use Rattle.encode_blocks.specs.Whole.{whole, laid_out}
use Rattle.payloads.specs.Small.{SmallPayload, encoded_again}
use Rattle.payloads.specs.Request13.{EncodesToItself}
use Rattle.payloads.proofs.Values.{decoded_bytes}

-- ---- By the decoder's answer

pub none_again : (s : List ℕ) → payload s 0 ≡ bad → encoded_again s ≡ none
unfolding encoded_again answer
none_again s h = rw h

module _ (s : List ℕ) (bytes : AllBytes s) {xs : List StatementValue} {e : ℕ} (h : payload s 0 ≡ got xs e) where
  again_is : encoded_again s ≡ some (payload_bytes xs)
  unfolding encoded_again answer
  again_is = rw h

  -- the statements' bytes stand behind the count
  pub statements_there : (8 ≤ e) × (e ≤ length s) × (bytes_at s 8 (e - 8) ≡ joined statement_bytes xs)
  unfolding payload_bytes vec_bytes le
  statements_there =
      let laid = (payload_inverse.encoded bytes h).spans in
      let behind = right (le 8 (length xs)) (joined statement_bytes xs) laid in
      (omega (arith, behind.end), laid.within, between behind)

  -- and are as many statements as the count says
  pub statements_again : {start count : ℕ} → start ≡ 8 → length xs ≡ count
      → laid_out payload_bytes (whole (many statement count) (take (e - start) (drop start s))) ≡ encoded_again s
  unfolding whole answer pick bytes_at
  statements_again eight counted =
      let n = length (joined statement_bytes xs) in
      rw (
        eight,
        ← counted,
        statements_there.2,
        many_whole statement_inverse (payload_inverse.encoded bytes h).valid.each,
        eq-eqb n n refl,
      )
      (sym again_is)

-- ---- Each to its own bytes

pub own_bytes : {s : List ℕ} → SmallPayload s → encoded_again s ≡ some s
own_bytes {s} p = again_is s p.bytes p.decodes ∙ ap some (decoded_bytes p)

pub encodes_to_itself : (s : List ℕ) → SmallPayload s → EncodesToItself s
encodes_to_itself s p out r after room h =
    let f = fitted (rw (own_bytes p) at h) (omega arith) in
    (rw zero-add at f.0, f.1)
