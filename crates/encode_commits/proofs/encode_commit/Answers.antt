-- `encode_commits::encode_commit` meets its contract. Assumes nothing.
use mathlib.Core.Bool.{Bool}
use mathlib.Core.Path.{◌≡◌}
use mathlib.Core.List.{◌++◌}
use mathlib.Core.Option.{some}
use native.Mathlib.Omega.{arith}
use lib.ListN.{length}
use Rattle.laws.specs.Bytes.{le}
use Rattle.laws.specs.Parse.{many}
use Rattle.commits.specs.Records.{commit_data}
use Rattle.put_records.proofs.Lengths.{length_counted}
use Rattle.put_records.proofs.Puts.{then_put}
use Rattle.encode_commits.proofs.Commits.{commit_laid, commit_size}
use Rattle.encode.proofs.Encodings.{Tested, tested, room, fits, full, malformed}
use Rattle.encode_blocks.specs.Whole.{whole, laid_out}
use Rattle.encode_blocks.proofs.Wholes.{nothing_laid}
use Rattle.encode_commits.specs.Commits.{commit_with}
use Rattle.encode_commits.proofs.encode_commit.Goals as goal
use Rattle.encode_commits.proofs.encode_commit.Goals.{After-has_room_for, Else-not-are_all}

laid : (c : Else-not-are_all) → (laid_out (commit_with c.args.state.now) (whole (many commit_data c.args.count) c.args.commits.now) ≡ some (((le 8 c.args.count ++ c.args.commits.now) ++ (le 8 (length c.args.state.now) ++ c.args.state.now))))
laid c =
    let a = c.args in
    commit_laid a.state.now a.count a.commits.now c.are_all.ensures c.if-not-are_all.false
    (λ i. omega (arith, c.shared_slice_known-1.given i))

test : (c : After-has_room_for) → (λ (there : Bool). Tested c.args.out.now c.args.at (((le 8 c.args.count ++ c.args.commits.now) ++ (le 8 (length c.args.state.now) ++ c.args.state.now))) there) c.has_room_for.result
test c =
    tested c.args.out.now c.args.at (((le 8 c.args.count ++ c.args.commits.now) ++ (le 8 (length c.args.state.now) ++ c.args.state.now))) c.has_room_for.ensures
    (commit_size c.args.state.now c.args.count c.args.commits.now)

pub returns-then-not-are_all : goal.returns-then-not-are_all
returns-then-not-are_all c =
    let a = c.args in
    rw (nothing_laid (many commit_data a.count) (commit_with a.state.now) a.commits.now c.are_all.ensures
    c.if-not-are_all.true) (malformed a.out.now a.at)

pub returns-then-not-has_room_for : goal.returns-then-not-has_room_for
returns-then-not-has_room_for c = rw (laid (goal.at.returns-then-not-has_room_for c).Else-not-are_all) (full (test (goal.at.returns-then-not-has_room_for c).After-has_room_for) c.if-not-has_room_for.true)

pub put_counted-p-requires : goal.put_counted-p-requires
put_counted-p-requires c =
    let a = c.args in
    omega (
      arith,
      room (test (goal.at.put_counted-p-requires c).After-has_room_for) c.if-not-has_room_for.false,
      commit_size a.state.now a.count
          a.commits.now,
    )

pub put_counted-requires : goal.put_counted-requires
put_counted-requires c =
    let a = c.args in
    omega (
      arith,
      room (test (goal.at.put_counted-requires c).After-has_room_for)
          c.if-not-has_room_for.false,
      commit_size a.state.now a.count a.commits.now,
      length_counted a.count a.commits.now,
      c.put_counted-p.ensures.end,
      c.put_counted-p.auto.out,
    )

pub returns : goal.returns
returns c =
    rw (laid (goal.at.returns c).Else-not-are_all)
    (fits (test (goal.at.returns c).After-has_room_for)
    c.if-not-has_room_for.false
    (then_put c.put_counted-p.ensures c.put_counted.ensures
    (omega (
      arith,
      room (test (goal.at.returns c).After-has_room_for)
          c.if-not-has_room_for.false,
    ))))
