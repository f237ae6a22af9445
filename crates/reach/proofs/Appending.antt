-- Blocks of rows, one part of the rows behind another. Assumes nothing.
use mathlib.Core.Path.{◌≡◌, refl, sym, ap, ◌∙◌}
use mathlib.Core.Bool.{Bool, true, false}
use mathlib.Core.List.{List, [], ◌∷◌, ◌++◌, append_assoc}
use Prim.Native.Nat.{ℕ, ◌+◌, ◌≤◌}
use native.Mathlib.Omega.{arith}
use lib.Dec.{eqb}
use lib.ListN.{length, get_or}
use Rattle.laws.specs.Pick.{pick}
use Rattle.types.specs.declared.BlockReference.{BlockReference}
use Rattle.block_reader.specs.Reading as reading
use Rattle.block_reader.specs.Reading.{BlockRead, block_at}
use Rattle.filters.specs.Filters.{round_of}
use Rattle.query.specs.Query.{unloaded}
use Rattle.query.proofs.Collecting.{at_most_one, one_unloaded}
use Rattle.reach.specs.Blocks.{Indexed, Reads, failed, all, also, block_then, read_blocks}
use Rattle.reach.specs.Reaching.{AllBlockPlaces, reached_in, is_reached, next_parents}

-- ---- What is read

unfoldable pub joined : Reads → Reads → Reads
joined (failed n) y = failed n
joined (all a) (failed n) = failed n
joined (all a) (all b) = all (a ++ b)

pub joined_nothing : (y : Reads) → joined (all []) y ≡ y
unfolding joined
joined_nothing (failed n) = refl
joined_nothing (all b) = refl

pub joined_joined : (a b : List Indexed) (y : Reads) → joined (all a) (joined (all b) y) ≡ joined (all (a ++ b)) y
unfolding joined
joined_joined a b (failed n) = refl
joined_joined a b (all c) = ap all (sym (append_assoc a b c))

next_joined : (s : List ℕ) (round : ℕ) (x : BlockRead) (r y : Reads) → block_then s round x (joined r y) ≡ joined (block_then s round x r) y
unfolding block_then also joined
next_joined s round (reading.BlockRead.refused n) r y = refl
next_joined s round (reading.BlockRead.got b at n) (failed m) y = refl
next_joined s round (reading.BlockRead.got b at n) (all a) (failed m) = refl
next_joined s round (reading.BlockRead.got b at n) (all a) (all c) = refl

pub reads_append : (k : ℕ) (s : List ℕ) (used : ℕ) (a b : List (List ℕ))
    → read_blocks k s used (a ++ b) ≡ joined (read_blocks k s used a) (read_blocks k s used b)
unfolding read_blocks
reads_append k s used [] b = sym (joined_nothing (read_blocks k s used b))
reads_append k s used (r ∷ a) b =
    ap (block_then s (round_of r) (block_at k s used (get_or r 6 0))) (reads_append k s used a b)
    ∙ next_joined s (round_of r) (block_at k s used (get_or r 6 0)) (read_blocks k s used a) (read_blocks k s used b)

-- ---- Loads

pub unloaded_append : (a b : List (List ℕ)) → unloaded (a ++ b) ≡ unloaded a + unloaded b
unfolding unloaded
unloaded_append [] b = omega arith
unloaded_append (r ∷ a) b = omega (arith, one_unloaded r (a ++ b), one_unloaded r a, unloaded_append a b)

pub unloaded_most : (a : List (List ℕ)) → unloaded a ≤ length a
unfolding unloaded
unloaded_most [] = omega arith
unloaded_most (r ∷ a) = omega (arith, one_unloaded r a, at_most_one (eqb (get_or r 7 0) 0), unloaded_most a)

-- ---- Working rows, and parents

module _ (s : List ℕ) where
  pub placed_append : (a b : List (List ℕ)) → AllBlockPlaces s a → AllBlockPlaces s b → AllBlockPlaces s (a ++ b)
  placed_append [] b h g = g
  placed_append (r ∷ a) b h g = (h.0, placed_append a b h.1 g)

  pub reached_in_append : (a b : List (List ℕ)) → reached_in s (a ++ b) ≡ reached_in s a ++ reached_in s b
  unfolding reached_in pick
  reached_in_append [] b = refl
  reached_in_append (r ∷ a) b = by (eqb (get_or r 0 0) 0) _ (reached_in_append a b)
    where
      by : (t : Bool) (x : List BlockReference) → reached_in s (a ++ b) ≡ reached_in s a ++ reached_in s b
          → pick t (reached_in s (a ++ b)) (x ∷ reached_in s (a ++ b)) ≡ pick t (reached_in s a) (x ∷ reached_in s a) ++ reached_in s b
      by true x h = h
      by false x h = ap (λ (l : List (List BlockReference)). x ∷ l) h

pub parents_append : (parents : List (List BlockReference)) (a b : List Indexed)
    → next_parents parents (a ++ b) ≡ next_parents parents a ++ next_parents parents b
unfolding next_parents pick
parents_append parents [] b = refl
parents_append parents (x ∷ a) b = by (is_reached parents x.reference) (parents_append parents a b)
  where
    by : (t : Bool) → next_parents parents (a ++ b) ≡ next_parents parents a ++ next_parents parents b
        → pick t (x.includes ∷ next_parents parents (a ++ b)) (next_parents parents (a ++ b))
        ≡ pick t (x.includes ∷ next_parents parents a) (next_parents parents a) ++ next_parents parents b
    by true h = ap (λ (l : List (List BlockReference)). x.includes ∷ l) h
    by false h = h
