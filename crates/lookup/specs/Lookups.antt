-- The lookups by reference, by round, and by round and author. Document 01, "Lookups" and the order of checks: "Queries and cleanup check
-- 1, 2, 18."
use Rattle.std.specs.Prelude.{List, ℕ, Option, Some, None, Result}
use Rattle.refusal.specs.declared.Refusal.{Refusal}
use Rattle.types.specs.declared.BlockReference.{BlockReference}
use Rattle.store.specs.declared.BlockStore.{BlockStore}
use Rattle.filters.specs.Filters.{by_reference, by_round, by_author_round}
use Rattle.query.specs.declared.Looked.{Looked}
use Rattle.query.specs.Query.{Call, call_of, call_number, Question, asking, QueryAnswers}

-- ---- What each asks: `looked` and `looked_table` (crates/query/specs/Query.antt) are its answer and the words of its answer table

abbrev pub get_block : Call → BlockReference → Question
get_block c reference = asking c (call_number c) (by_reference reference)

abbrev pub get_blocks_by_round : Call → ℕ → Question
get_blocks_by_round c round = asking c (call_number c) (by_round round)

abbrev pub get_blocks_at_authority_round : Call → ℕ → ℕ → Question
get_blocks_at_authority_round c authority round = asking c (call_number c) (by_author_round authority round)

-- the blocks of a round, of an author or of every one
abbrev pub in_round : Option ℕ → ℕ → List (List ℕ) → List (List ℕ)
in_round None round = by_round round
in_round (Some authority) round = by_author_round authority round

abbrev pub blocks_of_round : Call → Option ℕ → ℕ → Question
blocks_of_round c author round = asking c (call_number c) (in_round author round)

-- ---- The calls: k, the image and used, the store and its index, the arguments, the answer, and the answer table before and after

abbrev pub GetBlock : ℕ → List ℕ → ℕ → BlockStore → List ℕ → BlockReference → Result Looked Refusal → List ℕ → List ℕ → Type 0
GetBlock k image used store index reference r out out' = QueryAnswers (get_block (call_of k image used store index) reference) r out out'

abbrev pub GetBlocksByRound : ℕ → List ℕ → ℕ → BlockStore → List ℕ → ℕ → Result Looked Refusal → List ℕ → List ℕ → Type 0
GetBlocksByRound k image used store index round r out out' =
    QueryAnswers (get_blocks_by_round (call_of k image used store index) round) r out out'

abbrev pub GetBlocksAtAuthorityRound : ℕ → List ℕ → ℕ → BlockStore → List ℕ → ℕ → ℕ → Result Looked Refusal → List ℕ → List ℕ → Type 0
GetBlocksAtAuthorityRound k image used store index authority round r out out' =
    QueryAnswers (get_blocks_at_authority_round (call_of k image used store index) authority round) r out out'
