-- A refused query has a number of document 01's table. Assumes nothing.
use mathlib.Core.Path.{◌≡◌}
use mathlib.Core.Bool.{Bool, true, false}
use mathlib.Core.List.{List, [], ◌∷◌}
use Prim.Native.Nat.{ℕ, zero, suc}
use native.Mathlib.Omega.{arith}
use lib.Dec.{leb}
use lib.ListN.{length, get_or}
use Rattle.laws.specs.Pick.{pick}
use Rattle.refusal.specs.declared.Refusal.TheVariants.{Rows}
use Rattle.refusal.specs.Tabled.{Tabled}
use Rattle.refusal.proofs.Numbers.{tabled}
use Rattle.wal_position.specs.Checks.{unless}
use Rattle.block_reader.specs.Reading as reading
use Rattle.block_reader.specs.Reading.{BlockRead, block_at}
use Rattle.block_reader.proofs.Reading.{TabledBlock, refused_tabled, block_at_tabled}
use Rattle.query.specs.Query.{Blocks, failed, all, also, followed_by, read_rows, Query, answers, fitting, Question, query}
use Rattle.query.specs.Query as queries

abbrev TabledBlocks : Blocks → Type 0
TabledBlocks (failed n) = Tabled n
TabledBlocks (all rows) = Unit {0}

abbrev pub TabledQuery : Query → Type 0
TabledQuery (queries.Query.refused n) = Tabled n
TabledQuery (answers rows) = Unit {0}

also_tabled : (row : List ℕ) (b : Blocks) → TabledBlocks b → TabledBlocks (also row b)
unfolding also
also_tabled row (failed n) h = h
also_tabled row (all rows) h = tt

followed_tabled : (x : BlockRead) (b : Blocks) → TabledBlock x → TabledBlocks b → TabledBlocks (followed_by x b)
unfolding followed_by
followed_tabled (reading.BlockRead.refused n) b h t = refused_tabled h
followed_tabled (reading.BlockRead.got r at n) b h t = also_tabled _ b t

rows_tabled : (k : ℕ) (s : List ℕ) (used : ℕ) (rows : List (List ℕ)) → TabledBlocks (read_rows k s used rows)
unfolding read_rows
rows_tabled k s used [] = tt
rows_tabled k s used (r ∷ rows) =
    followed_tabled (block_at k s used (get_or r 6 0)) (read_rows k s used rows) (block_at_tabled k s used (get_or r 6 0)) (rows_tabled k s used rows)

fitting_tabled : (lent : ℕ) (b : Blocks) → TabledBlocks b → TabledQuery (fitting lent b)
unfolding fitting pick
fitting_tabled lent (failed n) h = h
fitting_tabled lent (all rows) h = by (leb (length rows) lent)
  where
    by : (t : Bool) → TabledQuery (pick t (answers rows) (queries.Query.refused 15))
    by true = tt
    by false = tabled Rows

unless_tabled : (n : ℕ) (x : Query) → ((n ≡ 0 → ⊥) → Tabled n) → TabledQuery x → TabledQuery (unless n queries.Query.refused x)
unfolding unless
unless_tabled zero x number h = h
unless_tabled (suc n) x number h = number (λ z. omega (arith, z))

-- where the number of its checks is 0 or of the table
pub query_tabled : (q : Question) (lent : ℕ) → ((q.number ≡ 0 → ⊥) → Tabled q.number) → TabledQuery (query q lent)
unfolding query
query_tabled q lent number =
    unless_tabled q.number _ number
    (fitting_tabled lent (read_rows q.call.exponent q.call.image q.call.used q.chosen) (rows_tabled q.call.exponent q.call.image q.call.used q.chosen))
