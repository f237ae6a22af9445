-- `encode_commits::encode_commit_data` meets its contract. Assumes nothing.
use mathlib.Core.Bool.{Bool}
use mathlib.Core.Path.{◌≡◌}
use mathlib.Core.List.{◌++◌}
use mathlib.Core.Option.{some}
use native.Mathlib.Omega.{arith}
use lib.ListN.{length, length-append}
use Rattle.laws.specs.Bytes.{le}
use Rattle.laws.specs.Parse.{many}
use Rattle.types.specs.Records.{reference, reference_bytes}
use Rattle.put_records.proofs.Lengths.{length_counted}
use Rattle.put_records.proofs.Puts.{then_put}
use Rattle.encode_commits.proofs.Commits.{commit_data_laid, commit_data_size}
use Rattle.encode.proofs.Encodings.{Tested, tested, room, fits, full, malformed}
use Rattle.encode_blocks.specs.Whole.{whole, laid_out}
use Rattle.encode_blocks.proofs.Wholes.{nothing_laid}
use Rattle.encode_commits.specs.Commits.{commit_data_with}
use borrow.Author.Rules.{rules}
use Rattle.encode_commits.proofs.encode_commit_data.Goals as goal
use Rattle.encode_commits.proofs.encode_commit_data.Goals.{After-has_room, Else-not-are_all, Start}

all-32 : (c : Start) → length c.args.leader.digest.0 ≡ 32
all-32 c = search rules

laid : (c : Else-not-are_all) → (laid_out (commit_data_with c.args.leader) (whole (many reference c.args.count) c.args.sub_dag.now) ≡ some ((reference_bytes c.args.leader ++ (le 8 c.args.count ++ c.args.sub_dag.now))))
laid c =
    let a = c.args in
    commit_data_laid a.leader a.count a.sub_dag.now c.are_all.ensures c.if-not-are_all.false
    (λ i. omega (arith, c.shared_slice_known-1.given i))

test : (c : After-has_room) → (λ (there : Bool). Tested c.args.out.now c.args.at ((reference_bytes c.args.leader ++ (le 8 c.args.count ++ c.args.sub_dag.now))) there) c.has_room.result
test c =
    tested c.args.out.now c.args.at ((reference_bytes c.args.leader ++ (le 8 c.args.count ++ c.args.sub_dag.now))) c.has_room.ensures
    (commit_data_size c.args.leader c.args.count c.args.sub_dag.now ((search rules)))

pub returns-then-not-are_all : goal.returns-then-not-are_all
returns-then-not-are_all c =
    let a = c.args in
    rw (nothing_laid (many reference a.count) (commit_data_with a.leader) a.sub_dag.now c.are_all.ensures
    c.if-not-are_all.true) (malformed a.out.now a.at)

pub returns-then-not-has_room : goal.returns-then-not-has_room
returns-then-not-has_room c = rw (laid (goal.at.returns-then-not-has_room c).Else-not-are_all) (full (test (goal.at.returns-then-not-has_room c).After-has_room) c.if-not-has_room.true)

pub put-p-requires : goal.put-p-requires
put-p-requires c =
    let a = c.args in
    omega (
      arith,
      room (test (goal.at.put-p-requires c).After-has_room) c.if-not-has_room.false,
      length-append (reference_bytes a.leader)
          (le 8 a.count ++ a.sub_dag.now),
    )

pub put_counted-requires : goal.put_counted-requires
put_counted-requires c =
    let a = c.args in
    omega (
      arith,
      room (test (goal.at.put_counted-requires c).After-has_room)
          c.if-not-has_room.false,
      length-append (reference_bytes a.leader)
          (le 8 a.count ++ a.sub_dag.now),
      length_counted a.count a.sub_dag.now,
      c.put-p.ensures.end,
      c.put-p.auto.out,
    )

pub returns : goal.returns
returns c =
    rw (laid (goal.at.returns c).Else-not-are_all)
    (fits (test (goal.at.returns c).After-has_room)
    c.if-not-has_room.false
    (then_put c.put-p.ensures c.put_counted.ensures
    (omega (
      arith,
      room (test (goal.at.returns c).After-has_room)
          c.if-not-has_room.false,
    ))))
