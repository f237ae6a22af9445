-- A walk and a recovery of an image after a burst of four bytes in a payload: they come to that entry as before, and are refused there with 7.
-- Assumes nothing.
use Prim.Native.Nat.{ℕ, ◌+◌, ◌≤◌}
use mathlib.Core.Path.{◌≡◌, refl, sym, ap, ◌∙◌, subst}
use mathlib.Core.List.{List, [], ◌∷◌, ◌++◌}
use mathlib.Core.Logic.{inl, inr}
use native.Mathlib.Omega.{arith}
use lib.ListN.{length, take, length-append}
use lib.Seq.{take-take}
use Rattle.laws.specs.Bytes.{AllBytes}
use Rattle.laws.proofs.Tests.{eqb_cases}
use Rattle.wal_position.specs.Checks.{log_check, unless}
use Rattle.wal_position.proofs.Checks.{Sound, passed_sound, unless_passed, unless_refused}
use Rattle.wal_reader.specs.Entries.{Entry, end_of}
use Rattle.wal_reader.specs.Look.{damaged, look_at}
use Rattle.wal.specs.Walk as walks
use Rattle.wal.specs.Walk.{Stop, refuse, list, move, move_at, walk_at, Walk, listing, Step, listed, settled, skipped, step_from, walk}
use Rattle.wal.specs.Answers.{walked_of}
use Rattle.wal.proofs.Walks.{Listed, list_listed, after_step, walk_step_lem}
use Rattle.wal.proofs.Steps.{step_ahead, here, behind, step_way}
use Rattle.wal.proofs.Prefixes.{go_same, step_same}
use Rattle.committee.specs.Committee.{committee_check}
use Rattle.replay.specs.Items.{ReplayEntry}
use Rattle.replay.specs.Recovery.{Lent, Recovery, scan, scanned, replayed, recover, refused, recovered}
use Rattle.replay_log.proofs.Accepted.{replay_scanned, unless_recovered}
use Rattle.cut.proofs.Recovering.{walk_is, recover_is}
use Rattle.burst.specs.Burst.{Burst, WalkDetects}
use Rattle.burst.proofs.Images.{before_payload}
use Rattle.burst.proofs.Reading.{look_damaged}

-- ---- The walk

-- a walk that lists these entries and is refused at p with n
abbrev refused_walk : List Entry → ℕ → ℕ → Walk
refused_walk entries n p = record { entries = entries; ending = walks.Ending.refused n p }

-- The image t has the bytes of s up to the payload of a, and 7 refuses it where s lists a.
module _ (k : ℕ) (low : 6 ≤ k) (s : List ℕ) (used : ℕ) (image : used ≤ length s) (a : Entry) (t : List ℕ)
    (same : take (a.start + 16) s ≡ take (a.start + 16) t)
    (bad : (p : ℕ) → Listed k s used p a → look_at k t used p ≡ damaged 7) where
  move_damaged : (e p : ℕ) → move_at k s used e p ≡ list a → move_at k t used e p ≡ refuse 7 a.start
  unfolding move_at move
  move_damaged e p is =
      let l : Listed k s used p a = list_listed k s used e p is in
      ap (move k used e p) (bad p l) ∙ ap (refuse 7) (sym l.start)

  step_damaged : (e : ℕ) → step_from k s used e ≡ listed a → step_from k t used e ≡ walks.Step.refused 7 a.start
  unfolding step_from skipped settled
  step_damaged e is =
      elim (step_way k s used e a is) [
        | here lists ↦ rw (move_damaged e e lists)
        | behind {q = q} goes lists ↦
            let l : Listed k s used q a = list_listed k s used e q lists in
            let within : a.start + 16 ≤ used = omega (arith, l.start, l.in_used, l.length_least) in
            rw (go_same k s used t used (a.start + 16) within same e goes (omega (arith, l.start)), move_damaged e q lists)
      ]

  -- Where the walk of s from e lists `before` and then a: e is not past a, and the walk of t from e lists `before` and is refused at a.
  record Reaches (before : List Entry) (e : ℕ) : Type 0 where
    from : e ≤ a.start
    refuses : walk_at k t used e e ≡ refused_walk before 7 a.start

  first_step : (e : ℕ) (b : Entry) (rest : List Entry) → (walk_at k s used e e).entries ≡ b ∷ rest
      → (step_from k s used e ≡ listed b) × ((walk_at k s used (end_of b) (end_of b)).entries ≡ rest)
  unfolding after_step listing
  first_step e b rest is = from (step_from k s used e) refl (ap (λ (w : Walk). w.entries) (sym (walk_step_lem k s used low e)) ∙ is)
    where
      from : (x : Step) → step_from k s used e ≡ x → (after_step k s used e x).entries ≡ b ∷ rest
          → (step_from k s used e ≡ listed b) × ((walk_at k s used (end_of b) (end_of b)).entries ≡ rest)
      from (listed c) step leads =
          let this : c ≡ b = cc in
          (step ∙ ap listed this, ap (λ (x : Entry). (walk_at k s used (end_of x) (end_of x)).entries) (sym this) ∙ cc)
      from (walks.Step.stopped w) step leads = absurd (let z : ◌≡◌ {A = ℕ} 0 1 = cc in omega arith)
      from (walks.Step.refused n p) step leads = absurd (let z : ◌≡◌ {A = ℕ} 0 1 = cc in omega arith)

  reaches : (before : List Entry) (e : ℕ) (after : List Entry) → (walk_at k s used e e).entries ≡ before ++ a ∷ after → Reaches before e
  unfolding after_step listing
  reaches [] e after is =
      let first = first_step e a after is in
      record {
        from = (step_ahead k s used image e a first.0).from;
        refuses = walk_step_lem k t used low e ∙ ap (after_step k t used e) (step_damaged e first.0);
      }
  reaches (b ∷ before) e after is =
      let first = first_step e b (before ++ a ∷ after) is in
      let later : Reaches before (end_of b) = reaches before (end_of b) after first.1 in
      let ahead = step_ahead k s used image e b first.0 in
      let early : take (end_of b) s ≡ take (end_of b) t =
      sym (take-take (end_of b) (a.start + 16) s (omega (arith, later.from)))
      ∙ ap (take (end_of b)) same
      ∙ take-take (end_of b) (a.start + 16) t (omega (arith, later.from)) in
      record {
        from = omega (arith, ahead.ahead, later.from);
        refuses =
            walk_step_lem k t used low e
            ∙ ap (after_step k t used e) (step_same k s used image b t used ahead.inside early e first.0)
            ∙ ap (listing b) later.refuses;
      }

-- the walk passes 1 and 2, since it lists an entry
listed_sound : (k : ℕ) (s : List ℕ) (used : ℕ) (before : List Entry) (a : Entry) (after : List Entry) → (walk k s used).entries ≡ before ++ a ∷ after
    → Sound k used (length s)
unfolding walk
listed_sound k s used before a after is =
    elim (eqb_cases (log_check k used (length s)) 0) [
      | inl none ↦ passed_sound k used (length s) none.1
      | inr some ↦
          let ends : walk k s used ≡ refused_walk [] (log_check k used (length s)) 0 =
          unless_refused (λ n. refused_walk [] n 0) (walk_at k s used 0 0) (log_check k used (length s)) some.1 in
          let empty : [] ≡ before ++ a ∷ after = ap (λ (w : Walk). w.entries) (sym ends) ∙ is in
          absurd (omega (arith, simp length-append at (ap length empty)))
    ]

-- the image after the burst passes them too, and its walk is refused at a
walk_damaged : (k : ℕ) (s : List ℕ) → AllBytes s → (used : ℕ) (before : List Entry) (a : Entry) (after : List Entry)
    → (walk k s used).entries ≡ before ++ a ∷ after
    → (t : List ℕ) → AllBytes t → Burst 4 (a.start + 16) (length a.payload) s t
    → Sound k used (length t) × (walk k t used ≡ refused_walk before 7 a.start)
walk_damaged k s bs used before a after is t bt h =
    let sound : Sound k used (length s) = listed_sound k s used before a after is in
    let sound_t : Sound k used (length t) = subst (Sound k used) h.same_length sound in
    let header = before_payload (a.start + 16) (length a.payload) s t h in
    let lists : (walk_at k s used 0 0).entries ≡ before ++ a ∷ after = ap (λ (w : Walk). w.entries) (sym (walk_is k s used sound)) ∙ is in
    let reached =
    reaches k sound.low s used sound.within a t header
    (λ p l. look_damaged k s bs used p a sound.within l t bt (rw l.start at h)) before 0 after lists in
    (sound_t, walk_is k t used sound_t ∙ reached.refuses)

-- ---- Recovery

-- of an image whose walk is refused at p with n, behind the entries `before`
module _ (k : ℕ) (t : List ℕ) (used : ℕ) (sound : Sound k used (length t)) (before : List Entry) (n p : ℕ)
    (is : walk k t used ≡ refused_walk before n p) (size own : ℕ) (lent : Lent) where
  replays : Recovery
  replays = replayed size own lent (refused_walk before n p)

  recovery : recover k t used size own lent ≡ unless (committee_check size own) (λ m. refused m 0) replays
  unfolding replays
  recovery =
      recover_is k t used sound size own lent
      ∙ ap (λ (w : Walk). unless (committee_check size own) (λ m. refused m 0) (replayed size own lent w)) is

  recovery_passed : (l : List ReplayEntry) → committee_check size own ≡ 0 → scan size own lent [] before ≡ scanned l → recover k t used size own lent ≡ refused n p
  unfolding replays replayed
  recovery_passed l committee passes = recovery ∙ unless_passed (λ m. refused m 0) replays (committee_check size own) committee ∙ rw passes

  recovery_never : (word : Stop) (end : ℕ) (l : List ReplayEntry) → recover k t used size own lent ≡ recovered word end l → ⊥
  unfolding replays
  recovery_never word end l accepted =
      let replay = (unless_recovered (committee_check size own) replays (sym recovery ∙ accepted)).1 in
      let ends = (replay_scanned size own lent (refused_walk before n p) replay).ends in
      let z : ◌≡◌ {A = ℕ} 0 1 = cc in
      omega arith

-- ---- Both

pub walk_detects : WalkDetects 4
unfolding walked_of replays
walk_detects k s bs used before a after is t bt h =
    let w = walk_damaged k s bs used before a after is t bt h in
    record {
      walks = w.1;
      answers = ap (λ (x : Walk). walked_of used x.ending) w.1;
      recovers = recovery k t used w.0 before 7 a.start w.1;
      seven = recovery_passed k t used w.0 before 7 a.start w.1;
      never = recovery_never k t used w.0 before 7 a.start w.1;
    }
