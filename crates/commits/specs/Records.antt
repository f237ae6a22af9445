-- Own blocks and commits (document 01, "Records"): parser and layout side by side.
use Rattle.std.specs.Prelude.{List, ◌++◌, ℕ}
use Rattle.laws.specs.Bytes.{le}
use Rattle.laws.specs.Parse.{Parser, got, then, number}
use Rattle.bincode.specs.Bincode.{vec, vec_bytes, byte_string, byte_string_bytes}
use Rattle.types.specs.declared.BlockReference.{BlockReference}
use Rattle.types.specs.Records.{reference, reference_bytes, BlockValue, block, block_bytes}

-- "3 own block (8-byte next entry, block)"
pub record OwnBlockValue : Type 0 where
  pub next_entry : ℕ
  pub block : BlockValue

unfoldable pub own_block : Parser OwnBlockValue
own_block s p =
    then (number 8 s p) (λ n e.
    then (block s e) (λ b f.
    got (record { next_entry = n; block = b }) f))

unfoldable pub own_block_bytes : OwnBlockValue → List ℕ
own_block_bytes o = le 8 o.next_entry ++ block_bytes o.block

-- "list of leader and sub-dag": one element of that list
pub record CommitValue : Type 0 where
  pub leader : BlockReference
  pub sub_dag : List BlockReference

unfoldable pub commit_data : Parser CommitValue
commit_data s p =
    then (reference s p) (λ l e.
    then (vec reference s e) (λ d f.
    got (record { leader = l; sub_dag = d }) f))

unfoldable pub commit_data_bytes : CommitValue → List ℕ
commit_data_bytes c = reference_bytes c.leader ++ vec_bytes reference_bytes c.sub_dag

-- "5 commit (list of leader and sub-dag, then state)"; the state is a byte string ("`Bytes` as count and bytes")
pub record CommitsValue : Type 0 where
  pub commits : List CommitValue
  pub state : List ℕ

unfoldable pub commit : Parser CommitsValue
commit s p =
    then (vec commit_data s p) (λ cs e.
    then (byte_string s e) (λ state f.
    got (record { commits = cs; state = state }) f))

unfoldable pub commit_bytes : CommitsValue → List ℕ
commit_bytes c = vec_bytes commit_data_bytes c.commits ++ byte_string_bytes c.state
