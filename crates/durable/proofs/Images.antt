-- An image that holds the first L bytes of a log with which recovery at L was not refused: its walk, its recovery, and a cut. Assumes
-- nothing.
use mathlib.Core.Path.{◌≡◌, sym, ap, ◌∙◌, subst}
use mathlib.Core.List.{List, [], ◌++◌, append_assoc}
use Prim.Native.Nat.{ℕ, ◌≤◌}
use native.Mathlib.Omega.{arith}
use lib.ListN.{length}
use Rattle.wal_position.specs.Checks.{unless}
use Rattle.wal_position.proofs.Checks.{Sound, unless_passed}
use Rattle.wal_reader.specs.Entries.{Entry}
use Rattle.wal.specs.Walk.{Stop, Walk, Ending, stopped, walk_at, walk}
use Rattle.wal.specs.Answers.{walked_of}
use Rattle.wal.proofs.Prefixes.{onwards}
use Rattle.committee.specs.Committee.{committee_check}
use Rattle.replay.specs.Items.{ReplayEntry}
use Rattle.replay.specs.Recovery.{Lent, Recovery, refused, recovered, scan, scanned, Scanned, replayed, recover}
use Rattle.replay_log.specs.Answers.{rows_lent, Answers}
use Rattle.replay_log.proofs.Scanning.{concluded, replayed_from, replayed_whole}
use Rattle.cut.specs.Cut.{ruled}
use Rattle.cut.proofs.Recovering.{walk_is, recover_is}
use Rattle.durable.specs.Durable.{HoldsFirst, AllEndBy, Lists, Served, CutAt}
use Rattle.durable.proofs.Cutting.{end_earlier, both_end, Place, refusal_place, Within, from_within, Stops, stops_at}
use Rattle.durable.proofs.Scans.{scan_on, concluded_place, scan_begins}
use Rattle.durable.proofs.Recoveries.{NotRefused, not_refused, resumes, recovers_to_end}

-- ---- At L

module _ (k L : ℕ) (s : List ℕ) (size own : ℕ) (lent : Lent) {word : Stop} {l : List ReplayEntry}
    (at : NotRefused k s L size own lent word L l) where
  -- the entries up to L
  abbrev acknowledged : List Entry
  acknowledged = (walk_at k s L 0 0).entries

  acknowledged_end : AllEndBy L acknowledged
  acknowledged_end = (from_within k at.sound.low s L at.sound.within 0 (omega arith)).ends

  -- ---- An image that holds them

  -- it passes 1 and 2
  holds_sound : (t : List ℕ) (used : ℕ) → HoldsFirst L s t used → Sound k used (length t)
  holds_sound t used h =
      record { low = at.sound.low; high = at.sound.high; within = omega (arith, h.within); most = omega (arith, h.within) }

  module _ (t : List ℕ) (used : ℕ) (h : HoldsFirst L s t used) where
    sound : Sound k used (length t)
    sound = holds_sound t used h

    -- the walk from L on
    abbrev rest : Walk
    rest = walk_at k t used L L

    walk_on : walk k t used ≡ onwards acknowledged rest
    walk_on = walk_is k t used sound ∙ (resumes k s L size own lent at).same t used h.from (sym h.same)

    rest_within : Within k at.sound.low t used sound.within L rest
    rest_within = from_within k at.sound.low t used sound.within L h.from

    pub walk_lists : Lists k L s t used
    unfolding onwards
    walk_lists =
        record {
          rest = rest.entries;
          lists =
              ap (λ (w : Walk). w.entries) walk_on
              ∙ ap (λ (w : Walk). w.entries ++ rest.entries) (sym (walk_is k s L at.sound));
          behind = rest_within.starts;
        }

    ending_on : (walk k t used).ending ≡ rest.ending
    unfolding onwards
    ending_on = ap (λ (w : Walk). w.ending) walk_on

    pub walk_stops : (w : Stop) (e : ℕ) → (walk k t used).ending ≡ stopped w e → L ≤ e
    walk_stops w e is = (rest_within.stops w e (sym ending_on ∙ is)).0

    -- all its entries end by used
    pub all_within : AllEndBy used (walk k t used).entries
    unfolding onwards
    all_within =
        subst (λ (w : Walk). AllEndBy used w.entries) (sym walk_on)
        (both_end used acknowledged rest.entries (end_earlier acknowledged h.from acknowledged_end) rest_within.ends)

    -- recovery goes on behind the entries up to L
    recover_on : recover k t used size own lent ≡ concluded (scan size own lent l rest.entries) rest.ending
    unfolding onwards replayed_from
    recover_on =
        recover_is k t used sound size own lent
        ∙ unless_passed (λ n. refused n 0) (replayed size own lent (walk k t used)) (committee_check size own) at.committee
        ∙ ap (replayed size own lent) walk_on
        ∙ replayed_whole size own lent (onwards acknowledged rest)
        ∙ ap (λ (x : Scanned). concluded x rest.ending) (scan_on size own lent [] acknowledged rest.entries at.read.scans)

    pub recovers : (w : Stop) (e : ℕ) (m : List ReplayEntry) → recover k t used size own lent ≡ recovered w e m
        → Served k L size own lent l t e m
    unfolding onwards
    recovers w e m is =
        let there = not_refused k t used size own lent is in
        let same : walk_at k t used 0 0 ≡ onwards acknowledged rest = sym (walk_is k t used sound) ∙ walk_on in
        let scans : scan size own lent l rest.entries ≡ scanned m =
        sym (scan_on size own lent [] acknowledged rest.entries at.read.scans)
        ∙ ap (λ (x : Walk). scan size own lent [] x.entries) (sym same)
        ∙ there.read.scans in
        record {
          from = (rest_within.stops w e (ap (λ (x : Walk). x.ending) (sym same) ∙ there.read.ends)).0;
          begins = scan_begins size own lent l rest.entries scans;
          again = recovers_to_end k t used size own lent there;
        }

    -- ---- A cut at one of the places of the walk from L on

    module _ (p : ℕ) (place : Place p rest.entries rest.ending) where
      there : Stops k at.sound.low t used sound.within L p
      there = stops_at k at.sound.low t used sound.within L p h.from place

      holds_again : HoldsFirst L s t p
      holds_again =
          record {
            same = h.same;
            from = omega (arith, there.from, there.by);
            within = omega (arith, there.ahead, h.within);
          }

      walks_there : walk k t p ≡ record { entries = acknowledged ++ there.before; ending = stopped there.word there.end }
      unfolding onwards
      walks_there =
          walk_is k t p (holds_sound t p holds_again)
          ∙ (resumes k s L size own lent at).same t p holds_again.from (sym h.same)
          ∙ ap (onwards acknowledged) there.walks

      recovers_there : (size own : ℕ) (lent : Lent) → recover k t p size own lent
          ≡ ruled size own lent (acknowledged ++ there.before) there.word there.end
      unfolding ruled
      recovers_there size own lent =
          recover_is k t p (holds_sound t p holds_again) size own lent
          ∙ ap (λ (w : Walk). unless (committee_check size own) (λ n. refused n 0) (replayed size own lent w)) walks_there

      pub cut_at : CutAt k L s t used p
      unfolding onwards
      cut_at =
          record {
            from = holds_again.from;
            ahead = there.ahead;
            before = acknowledged ++ there.before;
            after = there.after;
            word = there.word;
            end = there.end;
            walks = walks_there;
            first =
                ap (λ (w : Walk). w.entries) walk_on
                ∙ ap (λ (es : List Entry). acknowledged ++ es) there.first
                ∙ sym (append_assoc acknowledged there.before there.after);
            ends_by =
                both_end p acknowledged there.before (end_earlier acknowledged holds_again.from acknowledged_end) there.ends_by;
            starts_from = there.starts_from;
            resumes_from = there.from;
            resumes_by = there.by;
            recovers = recovers_there;
            walk_call = ap (λ (w : Walk). walked_of p w.ending) walks_there;
            recover_call =
                λ size own lent r left answers.
                subst (λ (x : Recovery). Answers p own x lent r left) (recovers_there size own (rows_lent lent)) answers;
            again = holds_again;
          }

    pub walk_refused : (n p : ℕ) → (walk k t used).ending ≡ Ending.refused n p → CutAt k L s t used p
    walk_refused n p is =
        cut_at p (subst (Place p rest.entries) (sym (sym ending_on ∙ is)) (refusal_place rest.entries n p))

    pub recovery_refused : (n p : ℕ) → recover k t used size own lent ≡ refused n p → CutAt k L s t used p
    recovery_refused n p is =
        cut_at p (concluded_place size own lent l at.decodes rest.entries rest.ending n p (sym recover_on ∙ is))
