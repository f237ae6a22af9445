-- Ascending rows ascend by their first words, the rounds: once one is past a round, all later ones are. Assumes nothing.
use mathlib.Core.Path.{◌≡◌, sym, ◌∙◌}
use mathlib.Core.Logic.{⊎_elim}
use mathlib.Core.List.{List, [], ◌∷◌}
use Prim.Native.Nat.{ℕ, ◌≤◌, ◌<◌}
use native.Mathlib.Omega.{arith}
use lib.ListN.{length, take, get_or}
use Rattle.laws.proofs.Tests.{leb_cases}
use Rattle.std.specs.declared.cmp.Ordering.TheVariants.{Less}
use Rattle.rows.specs.Rows.{key, compared, Ascending}
use Rattle.tables.specs.Tables.{EightWords}
use Rattle.rows.proofs.Lexicographic.{not_above, first_above}

first_ascends : (r s : List ℕ) → 1 ≤ length r → 1 ≤ length s → compared (key r) (key s) ≡ Less → get_or r 0 0 ≤ get_or s 0 0
unfolding key
first_ascends [] s h k l = absurd (omega arith)
first_ascends (x ∷ r) [] h k l = absurd (omega arith)
first_ascends (x ∷ r) (y ∷ s) h k l =
    ⊎_elim
    (λ t. t.1)
    (λ f. absurd (not_above (sym l ∙ first_above x y (take 5 r) (take 5 s) f.1)))
    (leb_cases x y)

-- each row's round is past t
abbrev pub Past : ℕ → List (List ℕ) → Type 0
Past t [] = Unit
Past t (r ∷ rows) = (t < get_or r 0 0) × Past t rows

pub past : (t : ℕ) (r : List ℕ) (rows : List (List ℕ)) → t < get_or r 0 0 → EightWords (r ∷ rows) → Ascending (r ∷ rows) → Past t (r ∷ rows)
past t r [] h e a = (h, tt)
past t r (s ∷ rows) h e a =
    (h, past t s rows (omega (arith, first_ascends r s (omega (arith, e.0)) (omega (arith, e.1.0)) a.0)) e.1 a.1)
