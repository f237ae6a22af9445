-- Laws of stores. Assumes nothing.
use mathlib.Core.Path.{◌≡◌, refl, ap, ◌∙◌}
use mathlib.Core.Bool.{Bool, true, false}
use mathlib.Core.List.{List, ◌++◌}
use Prim.Native.Nat.{ℕ, ◌+◌, ◌≤◌}
use native.Mathlib.Omega.{arith}
use lib.ListN.{length, length-append, set}
use mir.Val.{bool_byte}
use Rattle.laws.specs.Pick.{pick}
use Rattle.laws.specs.Bytes.{written, le}
use Rattle.laws.proofs.Written.{then_written, written_one}
use Rattle.laws.proofs.LittleEndian.{length_le}
use Rattle.bincode.specs.Bincode.{bool_bytes}
use Rattle.put_records.specs.Put.{Put}
use Rattle.put_records.proofs.Lengths.{length_bool}

-- one behind the other
pub then_put : {s t u : List ℕ} {p q e : ℕ} {a b : List ℕ} → Put s p a t q → Put t q b u e → p ≤ length s → Put s p (a ++ b) u e
then_put {s} {t} {u} {p} {q} {e} {a} {b} g h l =
    record {
      bytes = h.bytes ∙ ap (λ (x : List ℕ). written x q b) g.bytes ∙ then_written s p q a b l g.end;
      end = omega (arith, g.end, h.end, length-append a b);
    }

-- a number of w bytes
pub put_number : (w x : ℕ) {s t : List ℕ} {p e : ℕ} → t ≡ written s p (le w x) → e ≡ p + w → Put s p (le w x) t e
put_number w x h n = record { bytes = h; end = omega (arith, length_le w x) }

pub put_bytes : {s t v : List ℕ} {p : ℕ} → t ≡ written s p v → Put s p v t (p + length v)
put_bytes h = record { bytes = h; end = refl }

pub put_flag : {s : List ℕ} {p : ℕ} (b : Bool) → p + length (bool_bytes b) ≤ length s → Put s p (bool_bytes b) (set s p (bool_byte b)) (p + 1)
unfolding bool_bytes pick le
put_flag {s} {p} true h = record { bytes = written_one s p 1 (omega (arith, length_bool true)); end = refl }
put_flag {s} {p} false h = record { bytes = written_one s p 0 (omega (arith, length_bool false)); end = refl }
