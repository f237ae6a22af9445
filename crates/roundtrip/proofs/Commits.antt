-- The round trips of own blocks and commits. Assumes nothing.
use Rattle.laws.specs.Bytes.{le}
use Rattle.laws.specs.Parse.{then}
use Rattle.bincode.specs.Bincode.{vec_bytes, byte_string_bytes}
use Rattle.types.specs.Records.{reference_bytes, block_bytes}
use Rattle.commits.specs.Records.{own_block, own_block_bytes, commit_data, commit_data_bytes, commit, commit_bytes}
use Rattle.roundtrip.proofs.Inverse.{Laid, Inverse}
use Rattle.roundtrip.specs.Valid.{ValidOwnBlock, ValidCommit, ValidCommits}
use Rattle.roundtrip.proofs.Spans.{append, left, right, last}
use Rattle.roundtrip.proofs.Rules.{moved, step, number_8, byte_string_inverse, vec_inverse}
use Rattle.roundtrip.proofs.Blocks.{reference_inverse, block_inverse}

pub own_block_inverse : Inverse own_block own_block_bytes ValidOwnBlock
unfolding own_block own_block_bytes then
own_block_inverse =
    record {
      decoded = λ o v h.
          let n = le 8 o.next_entry in
          let b = block_bytes o.block in
          rw (number_8.decoded o.next_entry v.next_entry (left n b h), block_inverse.decoded o.block v.block (right n b h));
      encoded = λ {s} {p} bytes h.
          let n = step number_8 bytes h in
          let b = step block_inverse bytes n.rest in
          moved (Laid own_block_bytes ValidOwnBlock s p) b.rest
          (record { valid = record { next_entry = n.valid; block = b.valid }; spans = append n.spans b.spans });
      some = λ o. last (le 8 o.next_entry) (block_bytes o.block) (block_inverse.some o.block);
    }

pub commit_data_inverse : Inverse commit_data commit_data_bytes ValidCommit
unfolding commit_data commit_data_bytes then
commit_data_inverse =
    record {
      decoded = λ c v h.
          let l = reference_bytes c.leader in
          let d = vec_bytes reference_bytes c.sub_dag in
          rw (
            reference_inverse.decoded c.leader v.leader (left l d h),
            (vec_inverse reference_inverse).decoded c.sub_dag v.sub_dag (right l d h),
          );
      encoded = λ {s} {p} bytes h.
          let l = step reference_inverse bytes h in
          let d = step (vec_inverse reference_inverse) bytes l.rest in
          moved (Laid commit_data_bytes ValidCommit s p) d.rest
          (record { valid = record { leader = l.valid; sub_dag = d.valid }; spans = append l.spans d.spans });
      some = λ c.
          last (reference_bytes c.leader) (vec_bytes reference_bytes c.sub_dag) ((vec_inverse reference_inverse).some c.sub_dag);
    }

pub commit_inverse : Inverse commit commit_bytes ValidCommits
unfolding commit commit_bytes then
commit_inverse =
    record {
      decoded = λ c v h.
          let cs = vec_bytes commit_data_bytes c.commits in
          let state = byte_string_bytes c.state in
          rw (
            (vec_inverse commit_data_inverse).decoded c.commits v.commits (left cs state h),
            byte_string_inverse.decoded c.state v.state (right cs state h),
          );
      encoded = λ {s} {p} bytes h.
          let cs = step (vec_inverse commit_data_inverse) bytes h in
          let state = step byte_string_inverse bytes cs.rest in
          moved (Laid commit_bytes ValidCommits s p) state.rest
          (record { valid = record { commits = cs.valid; state = state.valid }; spans = append cs.spans state.spans });
      some = λ c. last (vec_bytes commit_data_bytes c.commits) (byte_string_bytes c.state) (byte_string_inverse.some c.state);
    }
