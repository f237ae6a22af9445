-- What an encoder wrote decodes to the value that it was given, and ends where the encoder says. Assumes nothing.
use Rattle.std.proofs.Common.{Ok, Err}
use mathlib.Core.Path.{◌≡◌}
use mathlib.Core.Logic.{inl, inr}
use mathlib.Core.List.{List}
use mathlib.Core.Option.{some}
use Prim.Native.Nat.{ℕ, ◌+◌}
use native.Mathlib.Omega.{arith}
use lib.ListN.{length}
use Rattle.laws.specs.Pick.{pick}
use Rattle.laws.specs.Bytes.{written}
use Rattle.laws.specs.Parse.{got, Parser}
use Rattle.laws.proofs.Tests.{leb_cases}
use Rattle.roundtrip.specs.RoundTrip.{RoundTrip}
use Rattle.roundtrip.proofs.RoundTrips.{written_decodes}
use Rattle.encode.specs.declared.EncodeError.TheVariants.{NoRoom}
use Rattle.encode.specs.Encoding.{answer_at, encoded_at, Encodes}

pub encoded_decodes : {A : Type 0} {f : Parser A} {layout : A → List ℕ} {Valid : A → Type 0} → RoundTrip f layout Valid
    → (out : List ℕ) (at : ℕ) (x : A) → Valid x → (e : ℕ) (after : List ℕ) → Encodes out at (some (layout x)) (Ok e) after
    → f after at ≡ got x e
unfolding answer_at encoded_at pick
encoded_decodes {f = f} {layout = layout} r out at x v e after h =
    elim (leb_cases (at + length (layout x)) (length out)) [
      | inl y ↦
          let answers : Ok e ≡ Ok (at + length (layout x)) = rw y.0 at h.answers in
          let bytes : after ≡ written out at (layout x) = rw y.0 at h.bytes in
          let end : e ≡ at + length (layout x) = cc in
          rw (bytes, end) (written_decodes r out at x v (omega (arith, y.1)))
      | inr m ↦
          let answers : Ok e ≡ Err NoRoom = rw m.0 at h.answers in
          let z : ◌≡◌ {A = ℕ} 0 1 = cc in
          absurd (omega arith)
    ]
