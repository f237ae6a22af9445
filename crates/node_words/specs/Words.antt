-- An answer as words, in the order in which a call writes them. What is missing is zeros.
use Rattle.std.specs.Prelude.{Bool, true, false, Option, Some, None, List, [], ◌∷◌, ◌++◌, ℕ, replicate, Result, Ok, Err}
use Rattle.refusal.specs.Refusals.{number}
use Rattle.wal.specs.declared.Stop.{Stop}
use Rattle.wal.specs.declared.Stop.TheVariants.{End, Zeros, Torn}
use Rattle.wal.specs.declared.Walked.{Walked}
use Rattle.wal.specs.declared.RefusedAt.{RefusedAt}
use Rattle.bincode.specs.declared.Cursor.{Cursor}
use Rattle.types.specs.declared.BlockReference.{BlockReference}
use Rattle.index.specs.Keys.{key_words}
use Rattle.index.specs.declared.StoreSummary.{StoreSummary}
use Rattle.recovered.specs.declared.Recovered.{Recovered}

unfoldable pub flag : Bool → ℕ
flag false = 0
flag true = 1

-- the stop codes; that of a refusal is 3
unfoldable pub stop_word : Stop → ℕ
stop_word End = 0
stop_word Zeros = 1
stop_word Torn = 2

-- five words: the number, the start of the entry concerned, the stop code, E and the unread count
unfoldable pub walked_words : Result Walked RefusedAt → List ℕ
walked_words (Ok w) = 0 ∷ 0 ∷ stop_word w.stop ∷ w.end.0 ∷ w.unread ∷ []
walked_words (Err at) = number at.refusal ∷ at.start.0 ∷ 3 ∷ 0 ∷ 0 ∷ []

-- the number of a walk's answer: 0 where it is not refused
unfoldable pub number_at : {A : Type 0} → Result A RefusedAt → ℕ
number_at (Ok x) = 0
number_at (Err at) = number at.refusal

-- three words: whether there are bytes, where they begin, and how many they are
unfoldable pub span_words : Option Cursor → List ℕ
span_words None = replicate 3 0
span_words (Some c) = 1 ∷ c.at ∷ c.left ∷ []

-- seven words: whether there is a reference, and its row's key
unfoldable pub found_words : Option BlockReference → List ℕ
found_words None = replicate 7 0
found_words (Some r) = 1 ∷ key_words r

-- the walk's answer, and how many rows each table has
unfoldable pub head_words : Recovered → List ℕ
head_words r =
    walked_words r.walked
    ++ (r.replay.pending ∷ r.replay.blocks.unprocessed ∷ r.replay.committed ∷ r.replay.blocks.index ∷ [])

-- the own block, the highest round, and the last seen round of each authority
unfoldable pub summary_words : StoreSummary → List ℕ
summary_words s = found_words s.last_own_block ++ (s.highest_round ∷ s.last_seen_by_authority)

-- 161 words (proofs/Long.antt, `recovered_long`)
unfoldable pub recovered_words : Recovered → List ℕ
recovered_words r =
    head_words r
    ++ (span_words r.replay.last_own_block
    ++ (span_words r.replay.state
    ++ (span_words r.replay.committed_state
    ++ (found_words r.replay.last_committed_leader ++ summary_words r.replay.blocks.summary))))
