-- Laws of what an encoder answers and leaves. Assumes nothing.
use Rattle.std.proofs.Common.{Result, Ok, Err}
use mathlib.Core.Path.{◌≡◌, refl, sym, ap, ◌∙◌}
use mathlib.Core.Bool.{Bool, true, false}
use mathlib.Core.List.{List}
use mathlib.Core.Option.{none, some}
use Prim.Native.Nat.{ℕ, ◌+◌, ◌≤◌}
use native.Mathlib.Nat.{zero-add}
use native.Mathlib.Omega.{arith}
use borrow.Author.Tests.{leb-true, le-leb}
use lib.Dec.{leb}
use lib.ListN.{length, take, drop, length-append}
use lib.Seq.{take-append_seam}
use Rattle.laws.specs.Pick.{pick}
use Rattle.laws.specs.Bytes.{written}
use Rattle.put_records.specs.Put.{Put}
use Rattle.encode.specs.declared.EncodeError.{EncodeError}
use Rattle.encode.specs.declared.EncodeError.TheVariants.{NoRoom, Malformed}
use Rattle.encode.specs.Encoding.{answer_at, encoded_at, Encodes}

-- whether the bytes fit, by a test of their number
pub record Tested (out : List ℕ) (at : ℕ) (v : List ℕ) (there : Bool) : Type 0 where
  same : leb (at + length v) (length out) ≡ there

pub tested : (out : List ℕ) (at : ℕ) (v : List ℕ) {n : ℕ} {there : Bool} → there ≡ leb (at + n) (length out) → length v ≡ n
    → Tested out at v there
tested out at v told size = record { same = ap (λ (k : ℕ). leb (at + k) (length out)) size ∙ sym told }

module _ {out : List ℕ} {at : ℕ} {v : List ℕ} {there : Bool} (test : Tested out at v there) where
  pub room : there ≡ true → at + length v ≤ length out
  room t = leb-true (at + length v) (length out) (test.same ∙ t)

  pub fits : there ≡ true → {after : List ℕ} {e : ℕ} → Put out at v after e → Encodes out at (some v) (Ok e) after
  unfolding answer_at encoded_at pick
  fits t h = record { answers = rw (test.same ∙ t) (ap Ok h.end); bytes = rw (test.same ∙ t) h.bytes }

  pub full : there ≡ false → Encodes out at (some v) (Err NoRoom) out
  unfolding answer_at encoded_at pick
  full f = record { answers = rw (test.same ∙ f); bytes = rw (test.same ∙ f) }

-- what is no record
pub malformed : (out : List ℕ) (at : ℕ) → Encodes out at none (Err Malformed) out
unfolding answer_at encoded_at
malformed out at = record { answers = refl; bytes = refl }

-- what fits is written
pub fitted : {out : List ℕ} {at : ℕ} {v : List ℕ} {r : Result ℕ EncodeError} {after : List ℕ} → Encodes out at (some v) r after
    → at + length v ≤ length out → (r ≡ Ok (at + length v)) × (after ≡ written out at v)
unfolding answer_at encoded_at pick
fitted {out} {at} {v} h room =
    let fits = le-leb (at + length v) (length out) room in
    (rw fits at h.answers, rw fits at h.bytes)

-- a record that was encoded at the start of a buffer
pub record AtStart (v : List ℕ) (r : Result ℕ EncodeError) (after : List ℕ) : Type 0 where
  pub answer : r ≡ Ok (length v)
  pub within : length v ≤ length after
  pub bytes : take (length v) after ≡ v

pub at_start : {out v : List ℕ} {r : Result ℕ EncodeError} {after : List ℕ} → Encodes out 0 (some v) r after → length v ≤ length out → AtStart v r after
unfolding written
at_start {out} {v} h room =
    let f = fitted h (omega arith) in
    let rest = drop (0 + length v) out in
    record {
      answer = rw zero-add at f.0;
      within = rw f.1 (omega (arith, length-append v rest));
      bytes = rw f.1 (take-append_seam v rest);
    }

-- its bytes are those up to the end that was answered
module _ {v : List ℕ} {r : Result ℕ EncodeError} {after : List ℕ} {e : ℕ} (h : AtStart v r after) (g : r ≡ Ok e) where
  end_at_start : e ≡ length v
  end_at_start = let same : Ok e ≡ Ok (length v) = sym g ∙ h.answer in cc

  pub within_at_start : e ≤ length after
  within_at_start = rw end_at_start h.within

  pub bytes_at_start : take e after ≡ v
  bytes_at_start = rw end_at_start h.bytes

  pub length_at_start : e ≡ length (take e after)
  length_at_start = end_at_start ∙ sym (ap length bytes_at_start)
