-- Recovery after a cut: it reads the same entries as the walk does. Assumes nothing.
use mathlib.Core.Path.{◌≡◌, sym, ap, ◌∙◌, subst}
use mathlib.Core.List.{List, []}
use Prim.Native.Nat.{ℕ, ◌^◌, ◌≤◌}
use native.Mathlib.Omega.{arith}
use lib.ListN.{length}
use Rattle.wal_position.specs.Checks.{log_check, unless}
use Rattle.wal.specs.Walk as walks
use Rattle.wal.specs.Walk.{Walk, walk, walk_at}
use Rattle.wal_position.proofs.Checks.{Sound, sound_passes, unless_passed}
use Rattle.replay.specs.Recovery.{Lent, Recovery, refused, replayed, recover}
use Rattle.committee.specs.Committee.{committee_check}
use Rattle.replay_log.specs.Answers.{rows_lent, Answers}
use Rattle.cut.specs.PlainLog.{Log}
use Rattle.cut.specs.Cut.{Holds, kept, resume_at, ReadsBack, ruled, Recovers}

-- past 1, 2 and 18 recovery is the replay of the walk
module _ (k : ℕ) (s : List ℕ) (used : ℕ) (sound : Sound k used (length s)) where
  passed : log_check k used (length s) ≡ 0
  passed = sound_passes k used (length s) sound

  pub walk_is : walk k s used ≡ walk_at k s used 0 0
  unfolding walk
  walk_is = unless_passed (λ n. record { entries = []; ending = walks.Ending.refused n 0 }) (walk_at k s used 0 0) (log_check k used (length s)) passed

  pub recover_is : (size own : ℕ) (lent : Lent)
      → recover k s used size own lent ≡ unless (committee_check size own) (λ n. refused n 0) (replayed size own lent (walk k s used))
  unfolding recover
  recover_is size own lent =
      unless_passed (λ n. refused n 0) (unless (committee_check size own) (λ n. refused n 0) (replayed size own lent (walk_at k s used 0 0)))
      (log_check k used (length s)) passed
      ∙ ap (λ (w : Walk). unless (committee_check size own) (λ n. refused n 0) (replayed size own lent w)) (sym walk_is)

pub recovers : (k : ℕ) → 6 ≤ k → k ≤ 28 → (log : Log) → log.end ≤ 2 ^ 40 → (c : ℕ) (found : List ℕ) → c ≤ log.end → Holds log c found
    → ReadsBack k log c found → Recovers k log c found
unfolding ruled
recovers k least most log below c found by holds back =
    let sound : Sound k c (length found) = record { low = least; high = most; within = holds.room; most = omega arith } in
    let same : (size own : ℕ) (lent : Lent) → recover k found c size own lent ≡ ruled size own lent (kept log c) back.word (resume_at log c) =
    λ size own lent.
    recover_is k found c sound size own lent
    ∙ ap (λ (w : Walk). unless (committee_check size own) (λ n. refused n 0) (replayed size own lent w)) back.reads in
    record {
      word = back.word;
      walks = back.reads;
      recovers = same;
      calls =
          λ size own before r after answers.
          subst (λ (x : Recovery). Answers c own x before r after) (same size own (rows_lent before)) answers;
    }
