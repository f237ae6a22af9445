-- What the calls answer, of an image that holds the first L bytes. Assumes nothing.
use mathlib.Core.Path.{◌≡◌, sym, ap, ◌∙◌, subst}
use mathlib.Core.List.{List}
use Prim.Native.Nat.{ℕ, ◌-◌}
use Rattle.std.proofs.Common.{Ok, Err}
use Rattle.wal.specs.Walk.{Stop, Ending, stopped, walk}
use Rattle.wal.specs.Answers.{stop_of, refused_at, walked_of}
use Rattle.wal.specs.declared.RefusedAt.{RefusedAt}
use Rattle.wal.specs.declared.Walked.{Walked}
use Rattle.replay.specs.Items.{ReplayEntry}
use Rattle.replay.specs.Recovery.{Lent, Recovery, refused, recovered, recover}
use Rattle.recovered.specs.declared.Recovered.{Recovered}
use Rattle.recovered.specs.Answers.{refused_with}
use Rattle.replay_log.specs.Answers.{recovered_of, Tables, rows_lent, Answers, RecoverAnswers}
use Rattle.durable.specs.Durable.{HoldsFirst, CutAt, CallServed, Called}
use Rattle.durable.proofs.Recoveries.{NotRefused}
use Rattle.durable.proofs.Images.{walk_stops, walk_refused, recovers, recovery_refused}

-- ---- What an answer says of its definition

ending_stopped : (used : ℕ) (x : Ending) {w : Walked} → walked_of used x ≡ Ok w → (v : Stop) × (x ≡ stopped v w.end.0)
unfolding walked_of
ending_stopped used (stopped v e) {w} h =
    let same : record { stop = stop_of v; end = record { 0 = e }; unread = used - e } ≡ w = cc in
    (v, ap (λ (w : Walked). stopped v w.end.0) same)
ending_stopped used (Ending.refused n p) h = absurd (cc)

ending_refused : (used : ℕ) (x : Ending) {f : RefusedAt} → walked_of used x ≡ Err f → (n : ℕ) × (x ≡ Ending.refused n f.start.0)
unfolding walked_of refused_at
ending_refused used (stopped v e) h = absurd (cc)
ending_refused used (Ending.refused n p) {f} h =
    let same : refused_at n p ≡ f = cc in
    (n, ap (λ (f : RefusedAt). Ending.refused n f.start.0) same)

answer_stopped : (used own : ℕ) (x : Recovery) {w : Walked} → (recovered_of used own x).walked ≡ Ok w
    → (v : Stop) × (m : List ReplayEntry) × (x ≡ recovered v w.end.0 m)
unfolding recovered_of refused_with walked_of
answer_stopped used own (refused n p) h = absurd (cc)
answer_stopped used own (recovered v e m) {w} h =
    let same : record { stop = stop_of v; end = record { 0 = e }; unread = used - e } ≡ w = cc in
    (v, m, ap (λ (w : Walked). recovered v w.end.0 m) same)

answer_refused : (used own : ℕ) (x : Recovery) {f : RefusedAt} → (recovered_of used own x).walked ≡ Err f → (n : ℕ) × (x ≡ refused n f.start.0)
unfolding recovered_of refused_with refused_at walked_of
answer_refused used own (refused n p) {f} h =
    let same : refused_at n p ≡ f = cc in
    (n, ap (λ (f : RefusedAt). refused n f.start.0) same)
answer_refused used own (recovered v e l) h = absurd (cc)

-- ---- The answers

module _ (k L : ℕ) (s : List ℕ) (size own : ℕ) (lent : Lent) {word : Stop} {l : List ReplayEntry}
    (at : NotRefused k s L size own lent word L l) (t : List ℕ) (used : ℕ) (h : HoldsFirst L s t used) where
  -- a call of `recovery::recover`
  module _ (before : Tables) (r : Recovered) (after : Tables) (same : rows_lent before ≡ lent)
      (says : RecoverAnswers k t used size own before r after) where
    -- with the tables that recovery had at L
    says_lent : Answers used own (recover k t used size own lent) before r after
    says_lent = subst (λ (m : Lent). Answers used own (recover k t used size own m) before r after) same says

    walked : (recovered_of used own (recover k t used size own lent)).walked ≡ r.walked
    walked = ap (λ (x : Recovered). x.walked) (sym says_lent.answer)

    call_stopped : (w : Walked) → r.walked ≡ Ok w → CallServed k L size own lent l t used w.end.0 before r after
    call_stopped w is =
        let it = answer_stopped used own (recover k t used size own lent) (walked ∙ is) in
        record {
          word = it.0;
          entries = it.1;
          served = recovers k L s size own lent at t used h it.0 w.end.0 it.1 it.2;
          answers = subst (λ (x : Recovery). Answers used own x before r after) it.2 says_lent;
        }

    call_refused : (f : RefusedAt) → r.walked ≡ Err f → CutAt k L s t used f.start.0
    call_refused f is =
        let it = answer_refused used own (recover k t used size own lent) (walked ∙ is) in
        recovery_refused k L s size own lent at t used h it.0 f.start.0 it.1

  pub called : Called k L s size own lent l t used
  called =
      record {
        walk_stopped =
            λ w is.
            let it = ending_stopped used (walk k t used).ending is in
            walk_stops k L s size own lent at t used h it.0 w.end.0 it.1;
        walk_refused =
            λ f is.
            let it = ending_refused used (walk k t used).ending is in
            walk_refused k L s size own lent at t used h it.0 f.start.0 it.1;
        recover_stopped = call_stopped;
        recover_refused = call_refused;
      }
