-- A parser finds a value exactly where a valid value is laid out: the form in which the round trips are proved, record by record.
use mathlib.Core.Path.{◌≡◌}
use mathlib.Core.List.{List}
use Prim.Native.Nat.{ℕ, ◌+◌, ◌≤◌, ◌<◌}
use lib.ListN.{length}
use Rattle.laws.specs.Bytes.{bytes_at, AllBytes}
use Rattle.laws.specs.Parse.{Parser, got}

-- the bytes v stand in s from p to e
pub record Spans (s : List ℕ) (p : ℕ) (v : List ℕ) (e : ℕ) : Type 0 where
  pub end : e ≡ p + length v
  pub within : e ≤ length s
  pub these : bytes_at s p (length v) ≡ v

-- a valid value stands in s from p to e, by its layout
pub record Laid {A : Type 0} (layout : A → List ℕ) (Valid : A → Type 0) (s : List ℕ) (p : ℕ) (x : A) (e : ℕ) : Type 0 where
  pub valid : Valid x
  pub spans : Spans s p (layout x) e

-- `encoded` is of bytes, since a number above 255 stands in no layout. No layout is empty, so that one always lies within the list.
pub record Inverse {A : Type 0} (f : Parser A) (layout : A → List ℕ) (Valid : A → Type 0) : Type 0 where
  pub decoded : {s : List ℕ} {p : ℕ} (x : A) {e : ℕ} → Valid x → Spans s p (layout x) e → f s p ≡ got x e
  pub encoded : {s : List ℕ} {p : ℕ} {x : A} {e : ℕ} → AllBytes s → f s p ≡ got x e → Laid layout Valid s p x e
  pub some : (x : A) → 0 < length (layout x)
