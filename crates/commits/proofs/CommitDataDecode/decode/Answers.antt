-- `decode` of an element of a commit's list meets its contract. Assumes nothing.
use mathlib.Core.Path.{◌≡◌, ap}
use mathlib.Core.List.{List}
use Prim.Native.Nat.{ℕ, ◌+◌}
use native.Mathlib.Omega.{arith}
use lib.ListN.{length}
use Rattle.laws.specs.Parse.{answer, then}
use Rattle.bincode.specs.declared.Cursor.{Cursor}
use Rattle.bincode.specs.Bincode.{vec}
use Rattle.bincode.proofs.Found.{told, nothing, told_none, told_then}
use Rattle.types.specs.declared.BlockReference.{BlockReference}
use Rattle.types.specs.Records.{reference}
use Rattle.types.proofs.References.{reference_width}
use Rattle.commits.specs.declared.CommitData.{CommitData}
use Rattle.commits.specs.Records.{commit_data}
use Rattle.commits.proofs.CommitDataDecode.decode.Goals as goal

element : BlockReference → Cursor → CommitData
element l d = record { leader = l; sub_dag = d }

pub returns-in_err-leader : goal.returns-in_err-leader
unfolding answer then commit_data
returns-in_err-leader c = rw (c.from_residual.ensures, nothing (reference c.args.s.now c.args.at) c.in_err-leader.ensures)

pub returns-in_err-sub_dag : goal.returns-in_err-sub_dag
unfolding answer then commit_data
returns-in_err-sub_dag c =
    rw (
      c.from_residual-in_err-sub_dag.ensures,
      told (reference c.args.s.now c.args.at) c.in_ok-leader.ensures,
      told_none _ (vec reference c.args.s.now c.in_ok-leader.p) c.in_err-sub_dag.ensures,
    )

pub returns : goal.returns
unfolding answer then commit_data element
returns c =
    let s = c.args.s.now in
    let l = c.in_ok-leader.leader in
    let h = told (reference s c.args.at) c.in_ok-leader.ensures in
    let place : c.in_ok-leader.p + 8 ≡ c.args.at + 64 = omega (arith, reference_width s c.args.at l c.in_ok-leader.p h) in
    rw h
    (told_then _ _ _ (element l) (vec reference s c.in_ok-leader.p)
    (λ (d : List BlockReference) e found. ap (λ (k : ℕ). element l (record { at = k; left = length d })) place) c.in_ok-sub_dag.ensures)
