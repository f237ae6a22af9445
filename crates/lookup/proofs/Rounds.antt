-- The rows of a round, of an author or of every one, are a part of the ascending rows. Assumes nothing.
use mathlib.Core.Path.{◌≡◌, refl, sym, ◌∙◌}
use mathlib.Core.Bool.{Bool, true, false}
use mathlib.Core.List.{List, [], ◌∷◌}
use mathlib.Core.Logic.{⊎_elim}
use Prim.Native.Nat.{ℕ, suc, ◌≤◌}
use native.Mathlib.Omega.{arith}
use lib.Dec.{leb}
use lib.ListN.{take, get_or}
use borrow.Author.Tests.{le-leb}
use Rattle.std.specs.Prelude.{Option, Some, None}
use Rattle.std.specs.declared.cmp.Ordering.{Ordering}
use Rattle.std.specs.declared.cmp.Ordering.TheVariants.{Less, Equal, Greater}
use Rattle.laws.specs.Pick.{pick}
use Rattle.laws.proofs.Tests.{leb_cases}
use Rattle.rows.specs.Rows.{key, compared, choose, below}
use Rattle.rows.proofs.Lexicographic.{first_above, not_above}
use Rattle.filters.specs.Segments.{up_to}
use Rattle.filters.proofs.Segments.{round_key}
use Rattle.filters.proofs.Queries.{of_round_and}
use Rattle.lookup.specs.Lookups.{in_round}

pub same_rows : (author : Option ℕ) (round : ℕ) (rows : List (List ℕ)) → of_round_and author round rows ≡ in_round author round rows
same_rows None round rows = refl
same_rows (Some author) round rows = refl

-- the rows of the round start where those up to it have not ended

first_word : (round : ℕ) (r : List ℕ) → compared (key r) (round_key round) ≡ Less → get_or r 0 0 ≤ round
unfolding key compared
first_word round [] h = omega arith
first_word round (x ∷ r) h =
    ⊎_elim
    (λ t. t.1)
    (λ f. absurd (not_above (sym h ∙ first_above x round (take 5 r) (0 ∷ 0 ∷ 0 ∷ 0 ∷ 0 ∷ []) f.1)))
    (leb_cases x round)

one_more : (o : Ordering) (t : Bool) {m n : ℕ} → m ≤ n → (o ≡ Less → t ≡ true) → choose o (suc m) m m ≤ pick t (suc n) n
unfolding choose pick
one_more Less t h then = rw (then refl) (omega (arith, h))
one_more Equal true h then = omega (arith, h)
one_more Equal false h then = h
one_more Greater true h then = omega (arith, h)
one_more Greater false h then = h

pub starts_before : (round : ℕ) (rows : List (List ℕ)) → below (round_key round) rows ≤ up_to round rows
unfolding below up_to
starts_before round [] = omega arith
starts_before round (r ∷ rows) =
    one_more (compared (key r) (round_key round)) (leb (get_or r 0 0) round) (starts_before round rows)
    (λ e. le-leb (get_or r 0 0) round (first_word round r e))
