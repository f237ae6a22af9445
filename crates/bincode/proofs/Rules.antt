-- Laws of bincode's rules. Assumes nothing.
use mathlib.Core.Path.{◌≡◌, sym, ap, ◌∙◌}
use mathlib.Core.Bool.{Bool}
use mathlib.Core.List.{List}
use mathlib.Core.Logic.{inl, inr}
use Prim.Native.Nat.{ℕ, ◌+◌, ◌≤◌, ◌<◌}
use native.Mathlib.Omega.{arith}
use borrow.Author.Tests.{le-leb, lt-leb}
use lib.Dec.{eqb}
use lib.ListN.{length, get_or}
use Rattle.laws.specs.Pick.{pick}
use Rattle.laws.specs.Bytes.{bytes_at}
use Rattle.laws.specs.Parse.{bad, got, Parser, then, number, many}
use Rattle.laws.proofs.Tests.{eqb_cases, leb_cases}
use Rattle.laws.proofs.Written.{length_bytes_at}
use Rattle.laws.proofs.LittleEndian.{of_le_one}
use Rattle.laws.proofs.Parses.{raw_found, number_got, number_bad, number_found, then_found, many_length}
use Rattle.bincode.specs.Bincode.{bool, vec, byte_string, exactly}

-- a bool, by the byte at its place
module _ (s : List ℕ) (p : ℕ) where
  pub bool_got : p + 1 ≤ length s → get_or s p 0 ≤ 1 → bool s p ≡ got (eqb (get_or s p 0) 1) (p + 1)
  unfolding bool then pick
  bool_got h l = rw (number_got 1 s p h, of_le_one s p (omega arith), le-leb (get_or s p 0) 1 l)

  pub bool_bad : p + 1 ≤ length s → 1 < get_or s p 0 → bool s p ≡ bad
  unfolding bool then pick
  bool_bad h l = rw (number_got 1 s p h, of_le_one s p (omega arith), lt-leb (get_or s p 0) 1 l)

  pub bool_short : length s < p + 1 → bool s p ≡ bad
  unfolding bool then
  bool_short h = rw (number_bad 1 s p h)

  pub bool_end : {b : Bool} {e : ℕ} → bool s p ≡ got b e → e ≡ p + 1
  unfolding bool pick
  bool_end {b} {e} h =
      let a = then_found (number 1 s p) h in
      elim (leb_cases a.0 1) [
        | inl y ↦
            let g : got (eqb a.0 1) a.1 ≡ got b e = (rw y.0 at a.3) in
            let end : e ≡ a.1 = cc in
            end ∙ (number_found 1 s p a.2).end
        | inr m ↦
            let g : bad ≡ got b e = (rw m.0 at a.3) in
            absurd (cc)
      ]

-- a byte string that was found: its bytes stand behind the 8 of its count
pub record Bytes (s : List ℕ) (p : ℕ) (bytes : List ℕ) (e : ℕ) : Type 0 where
  pub these : bytes ≡ bytes_at s (p + 8) (length bytes)
  pub end : e ≡ p + 8 + length bytes
  pub within : e ≤ length s

pub bytes_found : (s : List ℕ) (p : ℕ) {bytes : List ℕ} {e : ℕ} → byte_string s p ≡ got bytes e → Bytes s p bytes e
unfolding byte_string
bytes_found s p {bytes} {e} h =
    let a = then_found (number 8 s p) h in
    let count = number_found 8 s p a.2 in
    let r = raw_found a.0 s a.1 a.3 in
    let n : length bytes ≡ a.0 = ap length r.these ∙ length_bytes_at s a.1 a.0 (omega (arith, r.end, r.within)) in
    record {
      these = r.these ∙ ap (λ (k : ℕ). bytes_at s k a.0) count.end ∙ ap (bytes_at s (p + 8)) (sym n);
      end = omega (arith, r.end, count.end);
      within = r.within;
    }

-- a byte string that must have k bytes, where it was found
pub exactly_end : (k : ℕ) (s : List ℕ) (p : ℕ) {bytes : List ℕ} {e : ℕ} → exactly k s p ≡ got bytes e → e ≡ p + 8 + k
unfolding exactly pick
exactly_end k s p {bytes} {e} h =
    let a = then_found (byte_string s p) h in
    let f = bytes_found s p a.2 in
    elim (eqb_cases (length a.0) k) [
      | inl y ↦
          let g : got a.0 a.1 ≡ got bytes e = (rw y.0 at a.3) in
          let end : e ≡ a.1 = cc in
          omega (arith, f.end, y.1)
      | inr m ↦
          let g : bad ≡ got bytes e = (rw m.0 at a.3) in
          let z : ◌≡◌ {A = ℕ} 0 1 = cc in
          absurd (omega arith)
    ]

-- the elements of a list stand in a row behind the 8 bytes of its count
pub vec_run : {A : Type 0} (f : Parser A) (s : List ℕ) (p : ℕ) {xs ys : List A} {q e : ℕ} → vec f s p ≡ got xs e → xs ≡ ys → p + 8 ≡ q
    → many f (length ys) s q ≡ got ys e
unfolding vec
vec_run f s p {xs} {ys} {q} {e} h x y =
    let a = then_found (number 8 s p) h in
    rw (← x, ← y, many_length f s a.0 a.1 a.3, ← (number_found 8 s p a.2).end) a.3
