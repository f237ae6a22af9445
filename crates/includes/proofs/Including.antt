-- The includes of a block, read from its bytes: their count stands behind the block's reference, and they stand behind their count.
-- Assumes nothing.
use mathlib.Core.Path.{◌≡◌, refl, sym, ap, ◌∙◌}
use mathlib.Core.Bool.{Bool, true, false}
use mathlib.Core.List.{List, []}
use Prim.Native.Nat.{ℕ, suc, ◌+◌, ◌*◌, ◌≤◌, ◌<◌}
use native.Mathlib.Numerals.{add-one}
use native.Mathlib.Omega.{arith}
use lib.ListN.{length, drop, get_or, drop_of_length-le}
use lib.Seq.{drop-cons}
use Rattle.laws.specs.Pick.{pick}
use Rattle.laws.specs.Parse.{Res, bad, got, number, many, answer}
use Rattle.laws.proofs.Parses.{got_value, then_found, many_length}
use Rattle.bincode.specs.Bincode.{bool, vec}
use Rattle.crypto.specs.Records.{signature}
use Rattle.types.specs.declared.BlockReference.{BlockReference}
use Rattle.types.specs.Records.{reference, statement, BlockValue, block}
use Rattle.types.proofs.References.{reference_width, include_at}
use Rattle.includes.specs.References.{same, among}
use Rattle.includes.specs.Includes.{includes_of, Parses}

-- ---- Where they stand

block_includes : (s : List ℕ) {b : BlockValue} {e : ℕ} → block s 0 ≡ got b e → (f : ℕ) × (vec reference s 56 ≡ got b.includes f)
unfolding block
block_includes s {b} {e} h =
    let r = then_found (reference s 0) h in
    let is = then_found (vec reference s r.1) r.3 in
    let ss = then_found (vec statement s is.1) is.3 in
    let low = then_found (number 8 s ss.1) ss.3 in
    let high = then_found (number 8 s low.1) low.3 in
    let m = then_found (bool s high.1) high.3 in
    let sig = then_found (signature s m.1) m.3 in
    let these : is.0 ≡ b.includes = ap (λ (b : BlockValue). b.includes) (got_value sig.3) in
    let at : r.1 ≡ 56 = omega (arith, reference_width s 0 r.0 r.1 r.2) in
    (is.1, ap (vec reference s) (sym at) ∙ is.2 ∙ ap (λ (l : List BlockReference). got l is.1) these)

module _ (s : List ℕ) (parses : Parses s) where
  there : (f : ℕ) × (vec reference s 56 ≡ got (includes_of s) f)
  unfolding includes_of answer
  there =
      let i = block_includes s parses.2 in
      (i.0, i.1 ∙ sym (ap (λ (x : Res BlockValue). got (answer [] (λ (b : BlockValue) e. b.includes) x) i.0) parses.2))

  pub counted : number 8 s 56 ≡ bad → ⊥
  unfolding vec
  counted none =
      let n = then_found (number 8 s 56) there.1 in
      let never : bad ≡ got n.0 n.1 = sym none ∙ n.2 in
      let z : ◌≡◌ {A = ℕ} 0 1 = cc in
      omega arith

  listed : {n at : ℕ} → number 8 s 56 ≡ got n at → many reference n s at ≡ got (includes_of s) there.0
  unfolding vec
  listed {n} {at} count =
      let m = then_found (number 8 s 56) there.1 in
      let same : got m.0 m.1 ≡ got n at = sym m.2 ∙ count in
      let same_count : n ≡ m.0 = cc in
      let same_place : at ≡ m.1 = cc in
      rw (same_count, same_place) m.3

-- ---- The loop: none before the i-th is x

pub record Including (s : List ℕ) (x : BlockReference) (n at i : ℕ) : Type 0 where
  pub within : i ≤ n
  these : (e : ℕ) × (many reference n s at ≡ got (includes_of s) e)
  left : among x (includes_of s) ≡ among x (drop i (includes_of s))

pub including_start : (s : List ℕ) (x : BlockReference) {n at : ℕ} → Parses s → number 8 s 56 ≡ got n at → Including s x n at 0
including_start s x parses count =
    record { within = omega arith; these = ((there s parses).0, listed s parses count); left = refl }

module _ {s : List ℕ} {x : BlockReference} {n at i : ℕ} (h : Including s x n at i) where
  long : length (includes_of s) ≡ n
  long = many_length reference s n at h.these.1

  module _ (more : i < n) where
    ith : (d : BlockReference) → reference s (at + 56 * i) ≡ got (get_or (includes_of s) i d) (at + 56 * (i + 1))
    ith d = include_at s i n at h.these.1 d more

    pub including_there : (d : BlockReference) → reference s (at + 56 * i) ≡ bad → ⊥
    including_there d none =
        let never : bad ≡ got (get_or (includes_of s) i d) (at + 56 * (i + 1)) = sym none ∙ ith d in
        let z : ◌≡◌ {A = ℕ} 0 1 = cc in
        omega arith

    module _ {d : BlockReference} {e : ℕ} (is : reference s (at + 56 * i) ≡ got d e) {t : Bool} (test : t ≡ same x d) where
      first : among x (includes_of s) ≡ pick t true (among x (drop (suc i) (includes_of s)))
      unfolding among
      first =
          let there : i < length (includes_of s) = omega (arith, long) in
          let this : d ≡ get_or (includes_of s) i d = got_value (sym is ∙ ith d) in
          h.left
          ∙ ap (among x) (drop-cons (includes_of s) i d there)
          ∙ ap (λ (t : Bool). pick t true (among x (drop (suc i) (includes_of s)))) (sym (test ∙ ap (same x) this))

      pub including_found : t ≡ true → true ≡ among x (includes_of s)
      unfolding pick
      including_found e = sym (first ∙ rw e)

      pub including_next : t ≡ false → Including s x n at (i + 1)
      unfolding pick
      including_next e = record { within = omega arith; these = h.these; left = rw add-one (first ∙ rw e) }

  pub including_none : n ≤ i → false ≡ among x (includes_of s)
  unfolding among
  including_none all = sym (h.left ∙ ap (among x) (drop_of_length-le (includes_of s) {i = i} (omega (arith, long))))
