-- `decode` of a commit meets its contract. Assumes nothing.
use mathlib.Core.Path.{ap₂}
use mathlib.Core.List.{List}
use Prim.Native.Nat.{ℕ}
use Rattle.laws.specs.Parse.{answer, then}
use Rattle.bincode.specs.declared.Cursor.{Cursor}
use Rattle.bincode.specs.Bincode.{vec, byte_string}
use Rattle.bincode.proofs.Found.{told_as, told_none, told_then, bytes_placed}
use Rattle.commits.specs.declared.Commit.{Commit}
use Rattle.commits.specs.Records.{commit_data, commit}
use Rattle.commits.proofs.CommitDecode.decode.Goals as goal

both : Cursor → Cursor → Commit
both l t = record { commits = l; state = t }

pub returns-in_err-commits : goal.returns-in_err-commits
unfolding answer then commit
returns-in_err-commits c = rw (c.from_residual.ensures, told_none _ (vec commit_data c.args.s.now c.args.at) c.in_err-commits.ensures)

pub returns-in_err-state : goal.returns-in_err-state
unfolding answer then commit
returns-in_err-state c =
    rw (
      c.from_residual-in_err-state.ensures,
      (told_as _ (vec commit_data c.args.s.now c.args.at) c.in_ok-commits.ensures).1,
      told_none _ (byte_string c.args.s.now c.in_ok-commits.p) c.in_err-state.ensures,
    )

pub returns : goal.returns
unfolding answer then commit both
returns c =
    let s = c.args.s.now in
    let q = c.in_ok-commits.p in
    let l = told_as _ (vec commit_data s c.args.at) c.in_ok-commits.ensures in
    rw l.1
    (told_then _ _ _ (both c.in_ok-commits.commits) (byte_string s q)
    (λ (state : List ℕ) e found. ap₂ both l.2 (bytes_placed s q state e found)) c.in_ok-state.ensures)
