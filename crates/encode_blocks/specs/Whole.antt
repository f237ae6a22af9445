-- What a caller lends is a record, or elements in a row, only where the parser takes it all and nothing is left over.
use Rattle.std.specs.Prelude.{Bool, false, List, ℕ, eqb, length}
use Rattle.std.proofs.Math.Option.{Option, none, some}
use Rattle.laws.specs.Pick.{pick}
use Rattle.laws.specs.Parse.{Parser, answer}

-- the value that all of s stands for
unfoldable pub whole : {A : Type 0} → Parser A → List ℕ → Option A
whole f s = answer none (λ x e. pick (eqb e (length s)) (some x) none) (f s 0)

-- whether there is one
unfoldable pub is_whole : {A : Type 0} → Parser A → List ℕ → Bool
is_whole f s = answer false (λ x e. eqb e (length s)) (f s 0)

-- the layout of a value that may be missing
abbrev pub laid_out : {A : Type 0} → (A → List ℕ) → Option A → Option (List ℕ)
laid_out layout none = none
laid_out layout (some x) = some (layout x)
