-- The lookups after a round. Document 01, "Lookups" and the order of checks: "Queries and cleanup check 1, 2, 18. A query then checks 19".
use Rattle.std.specs.Prelude.{List, ℕ, ◌-◌, ◌^◌, eqb, Result}
use Rattle.refusal.specs.declared.Refusal.{Refusal}
use Rattle.laws.specs.Pick.{pick}
use Rattle.wal_position.specs.Checks.{unless}
use Rattle.store.specs.declared.BlockStore.{BlockStore}
use Rattle.filters.specs.Filters.{own_after, others_after}
use Rattle.query.specs.declared.Looked.{Looked}
use Rattle.query.specs.Query.{Call, call_of, call_number, Question, asking, QueryAnswers}

-- 19: "'after round' is 2^64 − 1"; 0 otherwise
unfoldable pub after_check : ℕ → ℕ
after_check after = pick (eqb after (2 ^ 64 - 1)) 19 0

-- 1, 2, 18, 19
unfoldable pub after_number : Call → ℕ → ℕ
after_number c after = unless (call_number c) (λ n. n) (after_check after)

-- ---- What each asks: `looked` and `looked_table` (crates/query/specs/Query.antt) are its answer and the words of its answer table

abbrev pub get_own_blocks : Call → ℕ → ℕ → Question
get_own_blocks c after limit = asking c (after_number c after) (own_after c.store.authority after limit)

abbrev pub get_others_blocks : Call → ℕ → ℕ → ℕ → Question
get_others_blocks c after authority limit = asking c (after_number c after) (others_after authority after limit)

-- ---- The calls: k, the image and used, the store and its index, the arguments, the answer, and the answer table before and after

abbrev pub GetOwnBlocks : ℕ → List ℕ → ℕ → BlockStore → List ℕ → ℕ → ℕ → Result Looked Refusal → List ℕ → List ℕ → Type 0
GetOwnBlocks k image used store index after limit r out out' =
    QueryAnswers (get_own_blocks (call_of k image used store index) after limit) r out out'

abbrev pub GetOthersBlocks : ℕ → List ℕ → ℕ → BlockStore → List ℕ → ℕ → ℕ → ℕ → Result Looked Refusal → List ℕ → List ℕ → Type 0
GetOthersBlocks k image used store index after authority limit r out out' =
    QueryAnswers (get_others_blocks (call_of k image used store index) after authority limit) r out out'
