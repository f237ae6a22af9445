-- Lists that are compared in two parts. Assumes nothing.
use mathlib.Core.Path.{◌≡◌, refl}
use mathlib.Core.Bool.{Bool, true, false}
use mathlib.Core.List.{List, [], ◌∷◌, ◌++◌}
use Prim.Native.Nat.{ℕ}
use native.Mathlib.Omega.{arith}
use lib.Dec.{ltb}
use lib.ListN.{length}
use Rattle.laws.specs.Pick.{pick}
use Rattle.std.specs.declared.cmp.Ordering.{Ordering}
use Rattle.std.specs.declared.cmp.Ordering.TheVariants.{Less, Greater}
use Rattle.rows.specs.Rows.{compared, choose}

pub first_decides : (t u : Bool) (o p z : Ordering) → p ≡ choose o Less z Greater
    → pick t Less (pick u Greater p) ≡ choose (pick t Less (pick u Greater o)) Less z Greater
unfolding pick choose
first_decides true u o p z h = refl
first_decides false true o p z h = refl
first_decides false false o p z h = h

-- lists of one length with others behind them: those in front decide unless they are equal
pub compared_append : (a b x y : List ℕ) → length a ≡ length b → compared (a ++ x) (b ++ y) ≡ choose (compared a b) Less (compared x y) Greater
unfolding compared choose
compared_append [] [] x y h = refl
compared_append [] (d ∷ b) x y h = absurd (omega arith)
compared_append (c ∷ a) [] x y h = absurd (omega arith)
compared_append (c ∷ a) (d ∷ b) x y h =
    first_decides (ltb c d) (ltb d c) (compared a b) (compared (a ++ x) (b ++ y)) (compared x y) (compared_append a b x y (omega arith))
