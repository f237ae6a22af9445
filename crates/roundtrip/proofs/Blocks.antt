-- The round trips of a block's records. Assumes nothing.
use mathlib.Core.Path.{◌≡◌, refl, ap}
use mathlib.Core.List.{List, ◌++◌}
use mathlib.Core.Logic.{inl, inr}
use Prim.Native.Nat.{ℕ, ◌<◌}
use lib.Dec.{lit<}
use lib.ListN.{length}
use Rattle.laws.specs.Pick.{pick}
use Rattle.laws.specs.Bytes.{le, AllBytes}
use Rattle.laws.specs.Parse.{got, then}
use Rattle.laws.proofs.Tests.{eqb_cases}
use Rattle.bincode.specs.Bincode.{bool_bytes, option_bytes, vec_bytes, byte_string_bytes, exactly}
use Rattle.crypto.specs.Records.{digest, digest_bytes, signature, signature_bytes}
use Rattle.types.specs.Records.{reference, reference_bytes, locator, locator_bytes, range, range_bytes, VoteValue, accept, reject, vote, vote_bytes, StatementValue, share, vote_on, vote_range, statement, statement_bytes, BlockValue, block, block_bytes, payload, payload_bytes}
use Rattle.roundtrip.proofs.Inverse.{Spans, Laid, Inverse}
use Rattle.roundtrip.specs.Valid.{Wide, ValidDigest, ValidSignature, ValidReference, ValidLocator, ValidRange, ValidVote, accepts, rejects, ValidStatement, shares, votes, ranges, ValidBlock, ValidList}
use Rattle.roundtrip.proofs.Spans.{append, left, right, first, last}
use Rattle.roundtrip.proofs.Rules.{moved, refused, step, number_4, number_8, exactly_inverse, byte_string_inverse, bool_inverse, option_inverse, vec_inverse}

-- bytes of a fixed number, under a name of their own
module _ {B : Type 0} (named : List ℕ → B) (bytes_of : B → List ℕ) (same : (b : B) → named (bytes_of b) ≡ b)
    (same_bytes : (bytes : List ℕ) → bytes_of (named bytes) ≡ bytes) (k : ℕ) (small : Wide 8 k) where
  fixed_inverse : Inverse (λ s p. then (exactly k s p) (λ bytes e. got (named bytes) e)) (λ b. byte_string_bytes (bytes_of b)) (λ b. length (bytes_of b) ≡ k)
  unfolding then
  fixed_inverse =
      record {
        decoded = λ b {e} v h. rw ((exactly_inverse k small).decoded (bytes_of b) v h) (ap (λ (b : B). got b e) (same b));
        encoded = λ {s} {p} bytes h.
            let a = step (exactly_inverse k small) bytes h in
            moved (Laid (λ b. byte_string_bytes (bytes_of b)) (λ b. length (bytes_of b) ≡ k) s p) a.rest
            (record { valid = rw same_bytes a.valid; spans = rw same_bytes a.spans });
        some = λ b. byte_string_inverse.some (bytes_of b);
      }

pub digest_inverse : Inverse digest digest_bytes ValidDigest
unfolding digest digest_bytes
digest_inverse = fixed_inverse (λ bytes. record { 0 = bytes }) (λ d. d.0) (λ d. refl) (λ bytes. refl) 32 (lit< tt)

pub signature_inverse : Inverse signature signature_bytes ValidSignature
unfolding signature signature_bytes
signature_inverse = fixed_inverse (λ bytes. record { 0 = bytes }) (λ b. b.0) (λ b. refl) (λ bytes. refl) 64 (lit< tt)

pub reference_inverse : Inverse reference reference_bytes ValidReference
unfolding reference reference_bytes then
reference_inverse =
    record {
      decoded = λ r v h.
          let a = le 8 r.authority in
          let b = le 8 r.round in
          let d = digest_bytes r.digest in
          let ab = left (a ++ b) d h in
          rw (
            number_8.decoded r.authority v.authority (left a b ab),
            number_8.decoded r.round v.round (right a b ab),
            digest_inverse.decoded r.digest v.digest (right (a ++ b) d h),
          );
      encoded = λ {s} {p} bytes h.
          let a = step number_8 bytes h in
          let b = step number_8 bytes a.rest in
          let d = step digest_inverse bytes b.rest in
          moved (Laid reference_bytes ValidReference s p) d.rest
          (record {
            valid = record { authority = a.valid; round = b.valid; digest = d.valid };
            spans = append (append a.spans b.spans) d.spans;
          });
      some = λ r. last (le 8 r.authority ++ le 8 r.round) (digest_bytes r.digest) (digest_inverse.some r.digest);
    }

pub locator_inverse : Inverse locator locator_bytes ValidLocator
unfolding locator locator_bytes then
locator_inverse =
    record {
      decoded = λ l v h.
          let b = reference_bytes l.block in
          let o = le 8 l.offset in
          rw (reference_inverse.decoded l.block v.block (left b o h), number_8.decoded l.offset v.offset (right b o h));
      encoded = λ {s} {p} bytes h.
          let b = step reference_inverse bytes h in
          let o = step number_8 bytes b.rest in
          moved (Laid locator_bytes ValidLocator s p) o.rest
          (record { valid = record { block = b.valid; offset = o.valid }; spans = append b.spans o.spans });
      some = λ l. last (reference_bytes l.block) (le 8 l.offset) (number_8.some l.offset);
    }

pub range_inverse : Inverse range range_bytes ValidRange
unfolding range range_bytes then
range_inverse =
    record {
      decoded = λ r v h.
          let b = reference_bytes r.block in
          let from = le 8 r.offset_start_inclusive in
          let to = le 8 r.offset_end_exclusive in
          let head = left (b ++ from) to h in
          rw (
            reference_inverse.decoded r.block v.block (left b from head),
            number_8.decoded r.offset_start_inclusive v.start (right b from head),
            number_8.decoded r.offset_end_exclusive v.end (right (b ++ from) to h),
          );
      encoded = λ {s} {p} bytes h.
          let b = step reference_inverse bytes h in
          let from = step number_8 bytes b.rest in
          let to = step number_8 bytes from.rest in
          moved (Laid range_bytes ValidRange s p) to.rest
          (record {
            valid = record { block = b.valid; start = from.valid; end = to.valid };
            spans = append (append b.spans from.spans) to.spans;
          });
      some = λ r.
          last (reference_bytes r.block ++ le 8 r.offset_start_inclusive) (le 8 r.offset_end_exclusive)
          (number_8.some r.offset_end_exclusive);
    }

pub vote_inverse : Inverse vote vote_bytes ValidVote
unfolding vote vote_bytes then pick
vote_inverse = record { decoded = λ x v h. back v h; encoded = forth; some = filled }
  where
    back : {s : List ℕ} {p : ℕ} {x : VoteValue} {e : ℕ} → ValidVote x → Spans s p (vote_bytes x) e → vote s p ≡ got x e
    back accepts h = rw (number_4.decoded 0 (lit< tt) h)
    back (rejects {other} v) h =
        rw (
          number_4.decoded 1 (lit< tt) (left (le 4 1) (option_bytes locator_bytes other) h),
          (option_inverse locator_inverse).decoded other v (right (le 4 1) (option_bytes locator_bytes other) h),
        )

    forth : {s : List ℕ} {p : ℕ} {x : VoteValue} {e : ℕ} → AllBytes s → vote s p ≡ got x e → Laid vote_bytes ValidVote s p x e
    forth {s} {p} bytes h =
        let n = step number_4 bytes h in
        elim (eqb_cases n.value 0) [
          | inl y ↦
              moved (Laid vote_bytes ValidVote s p) (rw y.0 at n.rest) (record { valid = accepts; spans = rw y.1 at n.spans })
          | inr m ↦
              elim (eqb_cases n.value 1) [
                | inl y ↦
                    let o = step (option_inverse locator_inverse) bytes (rw (m.0, y.0) at n.rest) in
                    moved (Laid vote_bytes ValidVote s p) o.rest
                    (record { valid = rejects o.valid; spans = append (rw y.1 at n.spans) o.spans })
                | inr k ↦ refused (rw (m.0, k.0) at n.rest)
              ]
        ]

    filled : (x : VoteValue) → 0 < length (vote_bytes x)
    filled accept = number_4.some 0
    filled (reject other) = first (le 4 1) (option_bytes locator_bytes other) (number_4.some 1)

pub statement_inverse : Inverse statement statement_bytes ValidStatement
unfolding statement statement_bytes then pick
statement_inverse = record { decoded = λ x v h. back v h; encoded = forth; some = filled }
  where
    back : {s : List ℕ} {p : ℕ} {x : StatementValue} {e : ℕ} → ValidStatement x → Spans s p (statement_bytes x) e → statement s p ≡ got x e
    back (shares {bytes} v) h =
        rw (
          number_4.decoded 0 (lit< tt) (left (le 4 0) (byte_string_bytes bytes) h),
          byte_string_inverse.decoded bytes v (right (le 4 0) (byte_string_bytes bytes) h),
        )
    back (votes {l} {v} lv vv) h =
        let head = left (le 4 1 ++ locator_bytes l) (vote_bytes v) h in
        rw (
          number_4.decoded 1 (lit< tt) (left (le 4 1) (locator_bytes l) head),
          locator_inverse.decoded l lv (right (le 4 1) (locator_bytes l) head),
          vote_inverse.decoded v vv (right (le 4 1 ++ locator_bytes l) (vote_bytes v) h),
        )
    back (ranges {r} v) h =
        rw (
          number_4.decoded 2 (lit< tt) (left (le 4 2) (range_bytes r) h),
          range_inverse.decoded r v (right (le 4 2) (range_bytes r) h),
        )

    forth : {s : List ℕ} {p : ℕ} {x : StatementValue} {e : ℕ} → AllBytes s → statement s p ≡ got x e
        → Laid statement_bytes ValidStatement s p x e
    forth {s} {p} bytes h =
        let n = step number_4 bytes h in
        elim (eqb_cases n.value 0) [
          | inl y ↦
              let b = step byte_string_inverse bytes (rw y.0 at n.rest) in
              moved (Laid statement_bytes ValidStatement s p) b.rest
              (record { valid = shares b.valid; spans = append (rw y.1 at n.spans) b.spans })
          | inr m ↦
              elim (eqb_cases n.value 1) [
                | inl y ↦
                    let l = step locator_inverse bytes (rw (m.0, y.0) at n.rest) in
                    let v = step vote_inverse bytes l.rest in
                    moved (Laid statement_bytes ValidStatement s p) v.rest
                    (record {
                      valid = votes l.valid v.valid;
                      spans = append (append (rw y.1 at n.spans) l.spans) v.spans;
                    })
                | inr k ↦
                    elim (eqb_cases n.value 2) [
                      | inl y ↦
                          let r = step range_inverse bytes (rw (m.0, k.0, y.0) at n.rest) in
                          moved (Laid statement_bytes ValidStatement s p) r.rest
                          (record { valid = ranges r.valid; spans = append (rw y.1 at n.spans) r.spans })
                      | inr j ↦ refused (rw (m.0, k.0, j.0) at n.rest)
                    ]
              ]
        ]

    filled : (x : StatementValue) → 0 < length (statement_bytes x)
    filled (share bytes) = first (le 4 0) (byte_string_bytes bytes) (number_4.some 0)
    filled (vote_on l v) = last (le 4 1 ++ locator_bytes l) (vote_bytes v) (vote_inverse.some v)
    filled (vote_range r) = first (le 4 2) (range_bytes r) (number_4.some 2)

pub payload_inverse : Inverse payload payload_bytes (ValidList ValidStatement)
unfolding payload payload_bytes
payload_inverse = vec_inverse statement_inverse

-- a block but for its signature
abbrev unsigned : BlockValue → List ℕ
unsigned b =
    reference_bytes b.reference
    ++ vec_bytes reference_bytes b.includes
    ++ vec_bytes statement_bytes b.statements
    ++ le 8 b.time_low
    ++ le 8 b.time_high
    ++ bool_bytes b.epoch_marker

pub block_inverse : Inverse block block_bytes ValidBlock
unfolding block block_bytes then
block_inverse =
    record {
      decoded = λ b v h.
          let r = reference_bytes b.reference in
          let is = vec_bytes reference_bytes b.includes in
          let ss = vec_bytes statement_bytes b.statements in
          let low = le 8 b.time_low in
          let high = le 8 b.time_high in
          let m = bool_bytes b.epoch_marker in
          let h₆ = left (unsigned b) (signature_bytes b.signature) h in
          let h₅ = left (r ++ is ++ ss ++ low ++ high) m h₆ in
          let h₄ = left (r ++ is ++ ss ++ low) high h₅ in
          let h₃ = left (r ++ is ++ ss) low h₄ in
          let h₂ = left (r ++ is) ss h₃ in
          rw (
            reference_inverse.decoded b.reference v.reference (left r is h₂),
            (vec_inverse reference_inverse).decoded b.includes v.includes (right r is h₂),
            (vec_inverse statement_inverse).decoded b.statements v.statements (right (r ++ is) ss h₃),
            number_8.decoded b.time_low v.time_low (right (r ++ is ++ ss) low h₄),
            number_8.decoded b.time_high v.time_high (right (r ++ is ++ ss ++ low) high h₅),
            bool_inverse.decoded b.epoch_marker tt (right (r ++ is ++ ss ++ low ++ high) m h₆),
            signature_inverse.decoded b.signature v.signature (right (unsigned b) (signature_bytes b.signature) h),
          );
      encoded = λ {s} {p} bytes h.
          let r = step reference_inverse bytes h in
          let is = step (vec_inverse reference_inverse) bytes r.rest in
          let ss = step (vec_inverse statement_inverse) bytes is.rest in
          let low = step number_8 bytes ss.rest in
          let high = step number_8 bytes low.rest in
          let m = step bool_inverse bytes high.rest in
          let sig = step signature_inverse bytes m.rest in
          let h₃ = append (append r.spans is.spans) ss.spans in
          moved (Laid block_bytes ValidBlock s p) sig.rest
          (record {
            valid = record {
              reference = r.valid;
              includes = is.valid;
              statements = ss.valid;
              time_low = low.valid;
              time_high = high.valid;
              signature = sig.valid;
            };
            spans = append (append (append (append h₃ low.spans) high.spans) m.spans) sig.spans;
          });
      some = λ b. last (unsigned b) (signature_bytes b.signature) (signature_inverse.some b.signature);
    }
