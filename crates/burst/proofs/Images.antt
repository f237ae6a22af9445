-- Two images that differ by a burst: they have the same bytes outside the run, as far as it lies in the payload, and so payloads with different
-- checksums; and a write is such a difference. Assumes nothing.
use Prim.Native.Nat.{ℕ, ◌+◌, ◌-◌, ◌≤◌, ◌<◌, min, max}
use mathlib.Core.Path.{◌≡◌, sym, ap, ap₂, ◌∙◌}
use mathlib.Core.List.{List, ◌++◌}
use mathlib.Core.Logic.{inl, inr}
use native.Mathlib.Omega.{arith}
use lib.ListN.{length, take, drop, get_or, length-take, length-drop}
use lib.Seq.{ext_get_or}
use Rattle.laws.specs.Bytes.{AllBytes, bytes_at, written}
use Rattle.laws.proofs.Tests.{leb_cases, eqb_cases}
use Rattle.laws.proofs.Written.{length_written, get_or_before, get_or_behind, length_bytes_at, bytes_at_add, bytes_at_written, get_or_bytes_at}
use Rattle.laws.proofs.AllBytes.{bytes_part}
use Rattle.checksum.specs.Crc32.{crc32}
use Rattle.burst.specs.Burst.{DiffersAt, Burst}
use Rattle.burst.proofs.Injective.{crc_injective}

-- ---- Bytes that are the same

-- a byte that does not differ is the same
same_at : (s t : List ℕ) (i : ℕ) → (DiffersAt s t i → ⊥) → get_or s i 0 ≡ get_or t i 0
same_at s t i h = elim (eqb_cases (get_or s i 0) (get_or t i 0)) [ inl same ↦ same.1 | inr differ ↦ absurd (h differ.1) ]

bytes_same : (s t : List ℕ) → length s ≡ length t → (p n : ℕ) → ((i : ℕ) → DiffersAt s t i → p ≤ i → i < p + n → ⊥) → bytes_at s p n ≡ bytes_at t p n
unfolding bytes_at
bytes_same s t e p n out =
    ext_get_or 0 (bytes_at s p n) (bytes_at t p n) (simp (length-take, length-drop) (omega arith))
    (λ i below.
    let short : i < n = omega (arith, length-take n (drop p s)) in
    get_or_bytes_at s p n i short
    ∙ same_at s t (p + i) (λ d. out (p + i) d (omega arith) (omega arith))
    ∙ sym (get_or_bytes_at t p n i short))

three_parts : (x : List ℕ) (at n lo hi : ℕ) → at ≤ lo → lo ≤ hi → hi ≤ at + n
    → bytes_at x at n ≡ bytes_at x at (lo - at) ++ (bytes_at x lo (hi - lo) ++ bytes_at x hi (at + n - hi))
three_parts x at n lo hi from up to =
    let all : (lo - at) + ((hi - lo) + (at + n - hi)) ≡ n = omega arith in
    let second : at + (lo - at) ≡ lo = omega arith in
    let third : lo + (hi - lo) ≡ hi = omega arith in
    ap (bytes_at x at) (sym all)
    ∙ bytes_at_add x at (lo - at) ((hi - lo) + (at + n - hi))
    ∙ ap (λ (p : ℕ). bytes_at x at (lo - at) ++ bytes_at x p ((hi - lo) + (at + n - hi))) second
    ∙ ap (λ (l : List ℕ). bytes_at x at (lo - at) ++ l)
    (bytes_at_add x lo (hi - lo) (at + n - hi) ∙ ap (λ (p : ℕ). bytes_at x lo (hi - lo) ++ bytes_at x p (at + n - hi)) third)

-- ---- All differences lie from lo to hi

module _ (s t : List ℕ) (e : length s ≡ length t) (lo hi : ℕ) (inside : (i : ℕ) → DiffersAt s t i → (lo ≤ i) × (i < hi)) where
  -- images that are the same there too are the same
  all_same : bytes_at s lo (hi - lo) ≡ bytes_at t lo (hi - lo) → s ≡ t
  all_same same =
      ext_get_or 0 s t e
      (λ i below. same_at s t i
      (λ d.
      let within : (lo ≤ i) × (i < hi) = inside i d in
      let there : lo + (i - lo) ≡ i = omega arith in
      let short : i - lo < hi - lo = omega arith in
      d
      (ap (λ (j : ℕ). get_or s j 0) (sym there)
      ∙ sym (get_or_bytes_at s lo (hi - lo) (i - lo) short)
      ∙ ap (λ (l : List ℕ). get_or l (i - lo) 0) same
      ∙ get_or_bytes_at t lo (hi - lo) (i - lo) short
      ∙ ap (λ (j : ℕ). get_or t j 0) there)))

  -- so are those whose payloads have the same checksum, where lo to hi are four bytes of the payload, or fewer
  crc_same : AllBytes s → AllBytes t → (at n : ℕ) → at + n ≤ length s → at ≤ lo → lo ≤ hi → hi ≤ at + n → hi ≤ lo + 4
      → crc32 (bytes_at s at n) ≡ crc32 (bytes_at t at n) → s ≡ t
  crc_same bs bt at n image from up to four sums =
      let v : List ℕ = bytes_at s lo (hi - lo) in
      let w : List ℕ = bytes_at t lo (hi - lo) in
      let a : List ℕ = bytes_at s at (lo - at) in
      let b : List ℕ = bytes_at s hi (at + n - hi) in
      let before : a ≡ bytes_at t at (lo - at) = bytes_same s t e at (lo - at) (λ i d f below. omega (arith, inside i d)) in
      let behind : b ≡ bytes_at t hi (at + n - hi) = bytes_same s t e hi (at + n - hi) (λ i d f below. omega (arith, inside i d)) in
      let was : bytes_at s at n ≡ a ++ (v ++ b) = three_parts s at n lo hi from up to in
      let is : bytes_at t at n ≡ a ++ (w ++ b) =
      three_parts t at n lo hi from up to ∙ ap₂ (λ (x y : List ℕ). x ++ (w ++ y)) (sym before) (sym behind) in
      let lv : length v ≡ hi - lo = length_bytes_at s lo (hi - lo) (omega arith) in
      let lw : length w ≡ hi - lo = length_bytes_at t lo (hi - lo) (omega arith) in
      all_same
      (crc_injective a v w b (lv ∙ sym lw) (omega arith) (bytes_part s lo (hi - lo) bs) (bytes_part t lo (hi - lo) bt)
      (ap crc32 (sym was) ∙ sums ∙ ap crc32 is))

-- ---- A burst of four bytes

module _ (at n : ℕ) (s t : List ℕ) (h : Burst 4 at n s t) where
  -- the bytes before the payload are the same
  pub before_payload : take at s ≡ take at t
  unfolding bytes_at
  before_payload = bytes_same s t h.same_length 0 at (λ i d f below. omega (arith, h.in_payload i d))

  -- the run, as far as it lies in the payload
  lo : ℕ
  lo = min (max at h.first) (at + n)

  hi : ℕ
  hi = max lo (min (h.first + 4) (at + n))

  pub crc_differs : AllBytes s → AllBytes t → at + n ≤ length s → crc32 (bytes_at s at n) ≡ crc32 (bytes_at t at n) → ⊥
  unfolding lo hi
  crc_differs bs bt image sums =
      h.changed
      (crc_same s t h.same_length lo hi (λ i d. let p = h.in_payload i d in let r = h.in_run i d in (omega arith, omega arith)) bs bt at n image
      (omega arith) (omega arith) (omega arith) (omega arith) sums)

-- ---- A write is a burst

module _ (s : List ℕ) (p : ℕ) (v : List ℕ) (fits : p + length v ≤ length s) where
  write_differs : (i : ℕ) → DiffersAt s (written s p v) i → (p ≤ i) × (i < p + length v)
  write_differs i d =
      elim (leb_cases p i) [
        | inl from ↦
            elim (leb_cases (p + length v) i) [
              | inl past ↦ absurd (d (sym (get_or_behind s p v i past.1 (omega arith))))
              | inr to ↦ (from.1, to.1)
            ]
        | inr before ↦ absurd (d (sym (get_or_before s p v i before.1 (omega arith))))
      ]

  pub write_burst : (width at n : ℕ) → length v ≤ width → at ≤ p → p + length v ≤ at + n → (bytes_at s p (length v) ≡ v → ⊥)
      → Burst width at n s (written s p v)
  write_burst width at n short from to other =
      record {
        same_length = sym (length_written s p v fits);
        in_payload = λ i d. let w = write_differs i d in (omega arith, omega arith);
        first = p;
        in_run = λ i d. let w = write_differs i d in (omega arith, omega arith);
        changed = λ e. other (ap (λ (l : List ℕ). bytes_at l p (length v)) e ∙ bytes_at_written s p v (omega arith));
      }
