-- The round trips of bincode's rules: byte strings, bools, options and lists. Assumes nothing.
use mathlib.Core.Path.{◌≡◌, sym, ap, ap₂, subst₂, ◌∙◌}
use mathlib.Core.Bool.{Bool, true, false}
use mathlib.Core.List.{List, []}
use mathlib.Core.Logic.{inl, inr}
use mathlib.Core.Option.{Option, none, some}
use Prim.Native.Nat.{ℕ, zero, suc, ◌+◌, ◌≤◌, ◌<◌}
use native.Mathlib.Omega.{arith}
use borrow.Author.Tests.{eq-eqb}
use lib.Dec.{lit<}
use lib.ListN.{length}
use Rattle.laws.specs.Pick.{pick}
use Rattle.laws.specs.Bytes.{bytes_at, le, AllBytes}
use Rattle.laws.specs.Parse.{Res, bad, got, Parser, then, raw, number, many, joined}
use Rattle.laws.proofs.Tests.{leb_cases, eqb_cases}
use Rattle.laws.proofs.Written.{length_bytes_at}
use Rattle.laws.proofs.Parses.{raw_got, raw_found, then_found, many_length}
use Rattle.bincode.specs.Bincode.{bool, bool_bytes, option, option_bytes, vec, vec_bytes, byte_string, byte_string_bytes, exactly}
use Rattle.roundtrip.proofs.Inverse.{Spans, Laid, Inverse}
use Rattle.roundtrip.specs.Valid.{Every, nil, more, Wide, ValidBytes, ValidList, ValidOption, nothing, just}
use Rattle.roundtrip.proofs.Spans.{empty, append, left, right, first}
use Rattle.roundtrip.proofs.Numbers.{number_inverse}

-- what holds of a value and its end holds of what it was found as
pub moved : {A : Type 0} (P : A → ℕ → Type 0) {a b : A} {e f : ℕ} → got a f ≡ got b e → P a f → P b e
moved P {a} {b} {e} {f} h =
    let v : a ≡ b = cc in
    let n : f ≡ e = cc in
    subst₂ P v n

pub refused : {A : Type 0} {B : Type 0} {b : A} {e : ℕ} → bad ≡ got b e → B
refused h = let z : ◌≡◌ {A = ℕ} 0 1 = cc in absurd (omega arith)

-- a parser at work before another: its value, and what is left to find
pub record Step {A B : Type 0} (layout : A → List ℕ) (Valid : A → Type 0) (s : List ℕ) (p : ℕ)
    (k : A → ℕ → Res B) (b : B) (e : ℕ) : Type 0 where
  pub value : A
  pub end : ℕ
  pub valid : Valid value
  pub spans : Spans s p (layout value) end
  pub rest : k value end ≡ got b e

pub step : {A B : Type 0} {f : Parser A} {layout : A → List ℕ} {Valid : A → Type 0} → Inverse f layout Valid → {s : List ℕ} {p : ℕ}
    {k : A → ℕ → Res B} {b : B} {e : ℕ} → AllBytes s → then (f s p) k ≡ got b e → Step layout Valid s p k b e
step {f = f} inv {s} {p} bytes h =
    let a = then_found (f s p) h in
    let n = inv.encoded bytes a.2 in
    record { value = a.0; end = a.1; valid = n.valid; spans = n.spans; rest = a.3 }

-- numbers of one, four and eight bytes
pub number_1 : Inverse (number 1) (le 1) (Wide 1)
number_1 = number_inverse 1 (lit< tt)

pub number_4 : Inverse (number 4) (le 4) (Wide 4)
number_4 = number_inverse 4 (lit< tt)

pub number_8 : Inverse (number 8) (le 8) (Wide 8)
number_8 = number_inverse 8 (lit< tt)

-- bytes

raw_back : {s : List ℕ} {p : ℕ} {v : List ℕ} {e : ℕ} → Spans s p v e → raw (length v) s p ≡ got v e
raw_back {s} {p} {v} {e} h =
    raw_got (length v) s p (omega (arith, h.end, h.within)) ∙ ap₂ got h.these (sym h.end)

raw_forth : (n : ℕ) (s : List ℕ) (p : ℕ) {v : List ℕ} {e : ℕ} → raw n s p ≡ got v e → (length v ≡ n) × Spans s p v e
raw_forth n s p {v} {e} h =
    let f = raw_found n s p h in
    let l : length v ≡ n = ap length f.these ∙ length_bytes_at s p n (omega (arith, f.end, f.within)) in
    (l, record { end = omega (arith, f.end, l); within = f.within; these = ap (bytes_at s p) l ∙ sym f.these })

pub byte_string_inverse : Inverse byte_string byte_string_bytes ValidBytes
unfolding byte_string byte_string_bytes then
byte_string_inverse =
    record {
      decoded = λ x v h. rw (number_8.decoded (length x) v (left (le 8 (length x)) x h)) (raw_back (right (le 8 (length x)) x h));
      encoded = λ {s} {p} {x} bytes h.
          let a = then_found (number 8 s p) h in
          let n = number_8.encoded bytes a.2 in
          let r = raw_forth a.0 s a.1 a.3 in
          record {
            valid = rw r.0 n.valid;
            spans = rw r.0 (append n.spans r.1);
          };
      some = λ x. first (le 8 (length x)) x (number_8.some (length x));
    }

-- a byte string of k bytes
pub exactly_inverse : (k : ℕ) → Wide 8 k → Inverse (exactly k) byte_string_bytes (λ bytes. length bytes ≡ k)
unfolding exactly then pick
exactly_inverse k small =
    record {
      decoded = λ x v h. rw (byte_string_inverse.decoded x (rw v small) h, eq-eqb (length x) k v);
      encoded = λ {s} {p} {x} {e} bytes h.
          let a = then_found (byte_string s p) h in
          elim (eqb_cases (length a.0) k) [
            | inl y ↦
                let n = byte_string_inverse.encoded bytes a.2 in
                moved (Laid byte_string_bytes (λ b. length b ≡ k) s p) (rw y.0 at a.3) (record { valid = y.1; spans = n.spans })
            | inr m ↦ refused (rw m.0 at a.3)
          ];
      some = byte_string_inverse.some;
    }

-- a bool: every one is valid
abbrev pub AnyBool : Bool → Type 0
AnyBool b = Unit {0}

pub bool_inverse : Inverse bool bool_bytes AnyBool
unfolding bool bool_bytes then pick
bool_inverse = record { decoded = λ x v h. back x h; encoded = forth; some = λ x. number_1.some (pick x 1 0) }
  where
    back : {s : List ℕ} {p : ℕ} (x : Bool) {e : ℕ} → Spans s p (bool_bytes x) e → bool s p ≡ got x e
    back true h = rw (number_1.decoded 1 (lit< tt) h)
    back false h = rw (number_1.decoded 0 (lit< tt) h)

    forth : {s : List ℕ} {p : ℕ} {x : Bool} {e : ℕ} → AllBytes s → bool s p ≡ got x e → Laid bool_bytes AnyBool s p x e
    forth {s} {p} {x} {e} bytes h =
        let a = then_found (number 1 s p) h in
        let n = number_1.encoded bytes a.2 in
        elim (leb_cases a.0 1) [
          | inl y ↦
              elim (eqb_cases a.0 1) [
                | inl z ↦
                    moved (Laid bool_bytes AnyBool s p) (rw (y.0, z.0) at a.3) (record { valid = tt; spans = rw z.1 at n.spans })
                | inr z ↦
                    let none : a.0 ≡ 0 = omega (arith, y.1, z.1) in
                    moved (Laid bool_bytes AnyBool s p) (rw (y.0, z.0) at a.3) (record { valid = tt; spans = rw none at n.spans })
              ]
          | inr m ↦ refused (rw m.0 at a.3)
        ]

module _ {A : Type 0} {f : Parser A} {layout : A → List ℕ} {Valid : A → Type 0} (inv : Inverse f layout Valid) where
  -- an option

  option_back : {s : List ℕ} {p : ℕ} {x : Option A} {e : ℕ} → ValidOption Valid x → Spans s p (option_bytes layout x) e
      → option f s p ≡ got x e
  unfolding option option_bytes then pick
  option_back nothing h = rw (bool_inverse.decoded false tt h)
  option_back (just {x} v) h =
      rw (bool_inverse.decoded true tt (left (bool_bytes true) (layout x) h), inv.decoded x v (right (bool_bytes true) (layout x) h))

  option_forth : {s : List ℕ} {p q : ℕ} {x : Option A} {e : ℕ} → AllBytes s → (there : Bool) → bool s p ≡ got there q
      → pick there (then (f s q) (λ x r. got (some x) r)) (got none q) ≡ got x e
      → Laid (option_bytes layout) (ValidOption Valid) s p x e
  unfolding option_bytes pick
  option_forth {s} {p} {q} bytes true t h =
      let b = then_found (f s q) h in
      let n = inv.encoded bytes b.2 in
      moved (Laid (option_bytes layout) (ValidOption Valid) s p) b.3
      (record { valid = just n.valid; spans = append (bool_inverse.encoded bytes t).spans n.spans })
  option_forth {s} {p} bytes false t h =
      moved (Laid (option_bytes layout) (ValidOption Valid) s p) h
      (record { valid = nothing; spans = (bool_inverse.encoded bytes t).spans })

  option_some : (x : Option A) → 0 < length (option_bytes layout x)
  unfolding option_bytes
  option_some none = bool_inverse.some false
  option_some (some x) = first (bool_bytes true) (layout x) (bool_inverse.some true)

  pub option_inverse : Inverse (option f) (option_bytes layout) (ValidOption Valid)
  unfolding option
  option_inverse =
      record {
        decoded = λ x v h. option_back v h;
        encoded = λ {s} {p} bytes h.
            let a = then_found (bool s p) h in
            option_forth bytes a.0 a.2 a.3;
        some = option_some;
      }

  -- elements in a row

  pub many_back : {s : List ℕ} {p : ℕ} {xs : List A} {e : ℕ} → Every Valid xs → Spans s p (joined layout xs) e
      → many f (length xs) s p ≡ got xs e
  unfolding many joined then
  many_back nil h = ap (got []) (omega (arith, h.end))
  many_back {p = p} (more {x} {xs} v vs) h =
      rw (inv.decoded x v (left (layout x) (joined layout xs) h), many_back {p = p + length (layout x)} vs (right (layout x) (joined layout xs) h))

  pub many_forth : (s : List ℕ) → AllBytes s → (n p : ℕ) {xs : List A} {e : ℕ} → p ≤ length s → many f n s p ≡ got xs e
      → Laid (joined layout) (Every Valid) s p xs e
  unfolding many joined
  many_forth s bytes zero p within h =
      moved (Laid (joined layout) (Every Valid) s p) h (record { valid = nil; spans = empty s p within })
  many_forth s bytes (suc n) p within h =
      let a = then_found (f s p) h in
      let b = then_found (many f n s a.1) a.3 in
      let x = inv.encoded bytes a.2 in
      let xs = many_forth s bytes n a.1 x.spans.within b.2 in
      moved (Laid (joined layout) (Every Valid) s p) b.3
      (record { valid = more x.valid xs.valid; spans = append x.spans xs.spans })

  -- a list behind its count
  pub vec_inverse : Inverse (vec f) (vec_bytes layout) (ValidList Valid)
  unfolding vec vec_bytes then
  vec_inverse =
      record {
        decoded = λ xs v h.
            rw (number_8.decoded (length xs) v.count (left (le 8 (length xs)) (joined layout xs) h))
            (many_back v.each (right (le 8 (length xs)) (joined layout xs) h));
        encoded = λ {s} {p} {x = xs} bytes h.
            let a = then_found (number 8 s p) h in
            let n = number_8.encoded bytes a.2 in
            let es = many_forth s bytes a.0 a.1 n.spans.within a.3 in
            let l : length xs ≡ a.0 = many_length f s a.0 a.1 a.3 in
            record {
              valid = record { count = rw l n.valid; each = es.valid };
              spans = rw l (append n.spans es.spans);
            };
        some = λ xs. first (le 8 (length xs)) (joined layout xs) (number_8.some (length xs));
      }
