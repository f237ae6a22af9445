-- The round trip of a number, over its width. Assumes nothing.
use mathlib.Core.Path.{◌≡◌, sym, ap, ap₂, ◌∙◌}
use Prim.Native.Nat.{ℕ, ◌+◌, ◌≤◌, ◌<◌}
use native.Mathlib.Omega.{arith}
use lib.ListN.{length}
use Rattle.laws.specs.Bytes.{bytes_at, le, of_le, AllBytes}
use Rattle.laws.specs.Parse.{got, number}
use Rattle.laws.proofs.AllBytes.{bytes_part}
use Rattle.laws.proofs.Written.{length_bytes_at}
use Rattle.laws.proofs.LittleEndian.{length_le, of_le_le, le_of_le, of_le_small}
use Rattle.laws.proofs.Parses.{number_got, number_found}
use Rattle.roundtrip.proofs.Inverse.{Inverse}
use Rattle.roundtrip.specs.Valid.{Wide}

pub number_inverse : (w : ℕ) → 0 < w → Inverse (number w) (le w) (Wide w)
number_inverse w some_bytes =
    record {
      decoded = λ {s} {p} x {e} v h.
          let n : length (le w x) ≡ w = length_le w x in
          let end : p + w ≡ e = omega (arith, h.end) in
          let value : of_le (bytes_at s p w) ≡ x = ap of_le (ap (bytes_at s p) (sym n) ∙ h.these) ∙ of_le_le w x v in
          number_got w s p (omega (arith, h.within)) ∙ ap₂ got value end;
      encoded = λ {s} {p} {x} {e} bytes h.
          let f = number_found w s p h in
          let fits : p + w ≤ length s = omega (arith, f.end, f.within) in
          let at : got (of_le (bytes_at s p w)) (p + w) ≡ got x e = sym (number_got w s p fits) ∙ h in
          let value : of_le (bytes_at s p w) ≡ x = cc in
          let n : length (bytes_at s p w) ≡ w = length_bytes_at s p w fits in
          let b : AllBytes (bytes_at s p w) = bytes_part s p w bytes in
          record {
            valid = rw (n, value) at (of_le_small (bytes_at s p w) b);
            spans = record {
              end = omega (arith, f.end, length_le w x);
              within = f.within;
              these = ap (bytes_at s p) (length_le w x) ∙ sym (le_of_le (bytes_at s p w) b) ∙ ap₂ le n value;
            };
          };
      some = λ x. omega (arith, length_le w x);
    }
