-- What it means that a parser and a layout are each other's inverse.
use Rattle.std.specs.Prelude.{◌≡◌, List, ◌++◌, ℕ, ◌+◌, ◌-◌, ◌≤◌, length, drop}
use Rattle.laws.specs.Bytes.{bytes_at, AllBytes}
use Rattle.laws.specs.Parse.{Parser, got}

-- what was read from p to e: a valid value, and the bytes that were read are its layout
pub record LayoutRead {A : Type 0} (layout : A → List ℕ) (Valid : A → Type 0) (s : List ℕ) (p : ℕ) (x : A) (e : ℕ) : Type 0 where
  pub begins : p ≤ e
  pub ends : e ≤ length s
  pub these : bytes_at s p (e - p) ≡ layout x
  pub valid : Valid x

-- Decoding what was encoded gives the value back and ends at its end, whatever bytes stand before and after. Encoding what was decoded
-- gives back the bytes that were read, so that a value has one encoding that is accepted.
pub record RoundTrip {A : Type 0} (f : Parser A) (layout : A → List ℕ) (Valid : A → Type 0) : Type 0 where
  pub decodes : (s : List ℕ) (at : ℕ) (x : A) (rest : List ℕ) → Valid x → drop at s ≡ layout x ++ rest
      → f s at ≡ got x (at + length (layout x))
  pub encodes : (s : List ℕ) → AllBytes s → (p : ℕ) (x : A) (e : ℕ) → f s p ≡ got x e → LayoutRead layout Valid s p x e
