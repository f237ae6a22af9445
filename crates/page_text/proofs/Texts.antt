-- Lines one after the other. Assumes nothing.
use mathlib.Core.Path.{◌≡◌, refl, ap}
use mathlib.Core.List.{List, [], ◌∷◌, ◌++◌, map}
use Prim.Native.Nat.{ℕ}
use Rattle.laws.specs.Parse.{joined}
use Rattle.page_text.specs.Page.{text}

-- lines that f gives
pub text_map : {A : Type 0} (f : A → List ℕ) (l : List A) → text (map f l) ≡ joined f l
unfolding text joined
text_map f [] = refl
text_map f (x ∷ l) = ap (λ (r : List ℕ). f x ++ r) (text_map f l)
