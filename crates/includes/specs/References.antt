-- References compared.
use Rattle.std.specs.Prelude.{Bool, true, false, List, [], ◌∷◌, ℕ, eqb}
use Rattle.laws.specs.Pick.{pick}
use Rattle.types.specs.declared.BlockReference.{BlockReference}

unfoldable pub same_bytes : List ℕ → List ℕ → Bool
same_bytes [] [] = true
same_bytes [] (y ∷ b) = false
same_bytes (x ∷ a) [] = false
same_bytes (x ∷ a) (y ∷ b) = pick (eqb x y) (same_bytes a b) false

unfoldable pub same : BlockReference → BlockReference → Bool
same a b =
    pick (eqb a.round b.round)
    (pick (eqb a.authority b.authority) (same_bytes a.digest.0 b.digest.0) false) false

unfoldable pub among : BlockReference → List BlockReference → Bool
among x [] = false
among x (y ∷ ys) = pick (same x y) true (among x ys)

-- whether a test holds of one of the blocks
unfoldable pub any : {A : Type 0} → (A → Bool) → List A → Bool
any f [] = false
any f (b ∷ blocks) = pick (f b) true (any f blocks)
