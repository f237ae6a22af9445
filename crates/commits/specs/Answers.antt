-- What the decoders of own blocks and commits answer: values, and the places of what is variable in length.
use Rattle.std.specs.Prelude.{ℕ, ◌+◌, ◌-◌, length}
use Rattle.blocks.specs.Answers.{statement_block}
use Rattle.commits.specs.declared.OwnBlockData.{OwnBlockData}
use Rattle.commits.specs.declared.CommitData.{CommitData}
use Rattle.commits.specs.declared.Commit.{Commit}
use Rattle.commits.specs.Records.{OwnBlockValue, CommitValue, CommitsValue}

-- the block of an own block at p stands behind the 8 bytes of its next entry
abbrev pub own_block_of : ℕ → OwnBlockValue → OwnBlockData
own_block_of p o = record { next_entry = record { 0 = o.next_entry }; block = statement_block (p + 8) o.block }

-- an element of a commit's list at p: its sub-dag stands behind a leader of 56 bytes and a count of 8
abbrev pub commit_of : ℕ → CommitValue → CommitData
commit_of p c = record { leader = c.leader; sub_dag = record { at = p + 64; left = length c.sub_dag } }

-- a commit at p that ends at e: its list stands behind a count of 8 bytes, and its state ends where it does
abbrev pub commits_of : ℕ → CommitsValue → ℕ → Commit
commits_of p c e =
    record {
      commits = record { at = p + 8; left = length c.commits };
      state = record { at = e - length c.state; left = length c.state };
    }
