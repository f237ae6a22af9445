-- The own block and the commits that an encoder is given, with what their lent bytes stand for.
use Rattle.std.specs.Prelude.{List, ℕ}
use Rattle.types.specs.declared.BlockReference.{BlockReference}
use Rattle.types.specs.Records.{BlockValue}
use Rattle.commits.specs.Records.{own_block_bytes, CommitValue, commit_data_bytes, commit_bytes}

abbrev pub own_block_with : ℕ → BlockValue → List ℕ
own_block_with n b = own_block_bytes (record { next_entry = n; block = b })

abbrev pub commit_data_with : BlockReference → List BlockReference → List ℕ
commit_data_with l d = commit_data_bytes (record { leader = l; sub_dag = d })

abbrev pub commit_with : List ℕ → List CommitValue → List ℕ
commit_with state cs = commit_bytes (record { commits = cs; state = state })
