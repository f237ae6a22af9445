-- The words of each decoded record but blocks and references (node_log), in the order in which they are put: what is missing is zeros, and
-- all words are zero where there is no record.
use Rattle.std.specs.Prelude.{Option, Some, None, List, [], ◌∷◌, ◌++◌, ℕ, replicate}
use Rattle.bincode.specs.declared.Cursor.{Cursor}
use Rattle.types.specs.declared.TransactionLocator.{TransactionLocator}
use Rattle.types.specs.declared.TransactionLocatorRange.{TransactionLocatorRange}
use Rattle.votes.specs.declared.Vote.{Vote}
use Rattle.votes.specs.declared.Vote.TheVariants as vote
use Rattle.statements.specs.declared.BaseStatement.{BaseStatement}
use Rattle.statements.specs.declared.BaseStatement.TheVariants as statement
use Rattle.commits.specs.declared.OwnBlockData.{OwnBlockData}
use Rattle.commits.specs.declared.Commit.{Commit}
use Rattle.commits.specs.declared.CommitData.{CommitData}
use Rattle.index.specs.Keys.{key_words}
use Rattle.node_log.specs.Answers.{Gives, block_words}

-- ---- Statements and payloads

-- the reference, and the offset
unfoldable pub locator_words : TransactionLocator → List ℕ
locator_words l = key_words l.block ++ (l.offset ∷ [])

-- the kind, and the locator that one kind names: an accept, a reject, and a reject for another transaction
unfoldable pub vote_words : Vote → List ℕ
vote_words vote.Accept = 0 ∷ replicate 7 0
vote_words (vote.Reject None) = 1 ∷ replicate 7 0
vote_words (vote.Reject (Some l)) = 2 ∷ locator_words l

-- the reference, the start and the end
unfoldable pub range_words : TransactionLocatorRange → List ℕ
range_words r = key_words r.block ++ (r.offset_start_inclusive ∷ r.offset_end_exclusive ∷ [])

-- the kind, the place and the number of a Share's bytes, a Vote's locator and vote, and a VoteRange's range
unfoldable pub kind_words : BaseStatement → List ℕ
kind_words (statement.Share bytes) = 0 ∷ bytes.at ∷ bytes.left ∷ replicate 23 0
kind_words (statement.Vote l v) = 1 ∷ 0 ∷ 0 ∷ (locator_words l ++ (vote_words v ++ replicate 8 0))
kind_words (statement.VoteRange r) = 2 ∷ 0 ∷ 0 ∷ (replicate 15 0 ++ range_words r)

-- of a statement: whether it decodes, the words of its kind, and the end. 28 words, all zero where it does not decode.
unfoldable pub statement_words : Option (BaseStatement × ℕ) → List ℕ
statement_words None = replicate 28 0
statement_words (Some (s, end)) = 1 ∷ (kind_words s ++ (end ∷ []))

abbrev pub DecodesStatement : Option (BaseStatement × ℕ) → ℕ → List ℕ → Type 0
DecodesStatement d n a = Gives 0 (statement_words d) n a

-- of a payload: whether it decodes, the place of its first statement, their number, and the end
unfoldable pub payload_words : Option (Cursor × ℕ) → List ℕ
payload_words None = replicate 4 0
payload_words (Some (c, end)) = 1 ∷ c.at ∷ c.left ∷ end ∷ []

abbrev pub DecodesPayload : Option (Cursor × ℕ) → ℕ → List ℕ → Type 0
DecodesPayload d n a = Gives 0 (payload_words d) n a

-- ---- Own blocks and commits

-- of an own block: the words of its block, and the next entry. 16 words, all zero where it does not decode.
unfoldable pub own_block_words : Option (OwnBlockData × ℕ) → List ℕ
own_block_words None = replicate 16 0
own_block_words (Some (o, end)) = block_words (Some (o.block, end)) ++ (o.next_entry.0 ∷ [])

abbrev pub DecodesOwnBlock : Option (OwnBlockData × ℕ) → ℕ → List ℕ → Type 0
DecodesOwnBlock d n a = Gives 0 (own_block_words d) n a

-- of a commit: whether it decodes, the place of the first element of its list, their number, the place and the number of the state's bytes,
-- and the end
unfoldable pub commit_words : Option (Commit × ℕ) → List ℕ
commit_words None = replicate 6 0
commit_words (Some (c, end)) = 1 ∷ c.commits.at ∷ c.commits.left ∷ c.state.at ∷ c.state.left ∷ end ∷ []

abbrev pub DecodesCommit : Option (Commit × ℕ) → ℕ → List ℕ → Type 0
DecodesCommit d n a = Gives 0 (commit_words d) n a

-- of an element of a commit's list: whether it decodes, the leader, the place of its sub-dag's first reference, their number, and the end.
-- 10 words, all zero where it does not decode.
unfoldable pub commit_data_words : Option (CommitData × ℕ) → List ℕ
commit_data_words None = replicate 10 0
commit_data_words (Some (c, end)) = (1 ∷ key_words c.leader) ++ (c.sub_dag.at ∷ c.sub_dag.left ∷ end ∷ [])

abbrev pub DecodesCommitData : Option (CommitData × ℕ) → ℕ → List ℕ → Type 0
DecodesCommitData d n a = Gives 0 (commit_data_words d) n a
