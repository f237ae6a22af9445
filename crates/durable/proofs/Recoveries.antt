-- A recovery that is not refused: what it says of log and walk, and that it gives the same with used E. Assumes nothing.
use mathlib.Core.Path.{◌≡◌, refl, ap, ◌∙◌}
use mathlib.Core.List.{List, [], append-nil}
use mathlib.Core.Option.{none}
use Prim.Native.Nat.{ℕ}
use native.Mathlib.Omega.{arith}
use lib.ListN.{length}
use Rattle.wal_position.specs.Checks.{log_check, unless}
use Rattle.wal_position.proofs.Checks.{Sound, passed_sound, unless_passed}
use Rattle.wal_reader.specs.Entries.{Entry}
use Rattle.wal.specs.Walk.{Stop, END, Walk, stopped, walk_at, walk}
use Rattle.wal.proofs.Prefixes.{onwards, Resumes, walk_resumes, walk_end}
use Rattle.committee.specs.Committee.{committee_check}
use Rattle.replay.specs.Items.{ReplayEntry}
use Rattle.replay.specs.Rules.{pending}
use Rattle.replay.specs.Recovery.{Lent, refused, recovered, scan, bad_payload, decoded, replayed, recover}
use Rattle.replay_log.proofs.Scanning.{concluded, replayed_from, replayed_whole}
use Rattle.replay_log.proofs.Accepted.{Replayed, replay_scanned, unless_recovered}
use Rattle.cut.proofs.Recovering.{walk_is, recover_is}
use Rattle.durable.proofs.Scans.{replayed_decodes}

-- a recovery that is not refused: it passes 1, 2 and 18, and is the replay of the walk
pub record NotRefused (k : ℕ) (s : List ℕ) (used size own : ℕ) (lent : Lent) (word : Stop) (e : ℕ) (l : List ReplayEntry) : Type 0 where
  pub sound : Sound k used (length s)
  pub committee : committee_check size own ≡ 0
  pub read : Replayed size own lent (walk_at k s used 0 0) word e l
  pub decodes : bad_payload (pending l) ≡ none

pub not_refused : (k : ℕ) (s : List ℕ) (used size own : ℕ) (lent : Lent) {word : Stop} {e : ℕ} {l : List ReplayEntry}
    → recover k s used size own lent ≡ recovered word e l → NotRefused k s used size own lent word e l
unfolding recover
not_refused k s used size own lent h =
    let w : Walk = walk_at k s used 0 0 in
    let log =
    unless_recovered (log_check k used (length s)) (unless (committee_check size own) (λ n. refused n 0) (replayed size own lent w)) h in
    let committee = unless_recovered (committee_check size own) (replayed size own lent w) log.1 in
    record {
      sound = passed_sound k used (length s) log.0;
      committee = committee.0;
      read = replay_scanned size own lent w committee.1;
      decodes = replayed_decodes size own lent w committee.1;
    }

-- and the other way round
module _ (size own : ℕ) (lent : Lent) {word : Stop} {e : ℕ} {l : List ReplayEntry} (decodes : bad_payload (pending l) ≡ none) where
  decoded_so : decoded word e l ≡ recovered word e l
  unfolding decoded
  decoded_so = rw (decodes, decoded)

  replayed_so : (w : Walk) → Replayed size own lent w word e l → replayed size own lent w ≡ recovered word e l
  unfolding replayed_from concluded
  replayed_so w read = replayed_whole size own lent w ∙ rw (read.scans, read.ends) decoded_so

  pub recovered_so : (k : ℕ) (s : List ℕ) (used : ℕ) → Sound k used (length s) → committee_check size own ≡ 0
      → Replayed size own lent (walk_at k s used 0 0) word e l → recover k s used size own lent ≡ recovered word e l
  recovered_so k s used sound committee read =
      recover_is k s used sound size own lent
      ∙ unless_passed (λ n. refused n 0) (replayed size own lent (walk k s used)) (committee_check size own) committee
      ∙ ap (replayed size own lent) (walk_is k s used sound)
      ∙ replayed_so (walk_at k s used 0 0) read

-- ---- With used E

module _ (k : ℕ) (s : List ℕ) (used size own : ℕ) (lent : Lent) {word : Stop} {e : ℕ} {l : List ReplayEntry}
    (at : NotRefused k s used size own lent word e l) where
  abbrev listed : List Entry
  listed = (walk_at k s used 0 0).entries

  pub resumes : Resumes k s used 0 e listed
  resumes = walk_resumes k at.sound.low s used at.sound.within (λ i. record { entries = listed; ending = at.read.ends i })

  walks_to_end : walk_at k s e 0 0 ≡ record { entries = listed; ending = stopped END e }
  unfolding onwards
  walks_to_end =
      resumes.same s e (omega arith) refl
      ∙ ap (onwards listed) (walk_end k s e)
      ∙ (λ i. record { entries = append-nil listed i; ending = stopped END e })

  pub recovers_to_end : recover k s e size own lent ≡ recovered END e l
  recovers_to_end =
      recovered_so size own lent at.decodes k s e
      (record {
        low = at.sound.low;
        high = at.sound.high;
        within = omega (arith, resumes.inside, at.sound.within);
        most = omega (arith, resumes.inside, at.sound.most);
      })
      at.committee
      (record {
        scans = ap (λ (w : Walk). scan size own lent [] w.entries) walks_to_end ∙ at.read.scans;
        ends = ap (λ (w : Walk). w.ending) walks_to_end;
      })
