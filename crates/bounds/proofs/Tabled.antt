-- A recovery that is refused is so with a number of document 01's table. Assumes nothing.
use mathlib.Core.Path.{◌≡◌, refl, subst}
use mathlib.Core.Bool.{Bool, true, false}
use mathlib.Core.List.{List, [], ◌∷◌, ◌++◌}
use mathlib.Core.Option.{Option, none, some}
use Prim.Native.Nat.{ℕ, zero, suc}
use native.Mathlib.Omega.{arith}
use lib.Dec.{leb, eqb}
use lib.ListN.{length}
use Rattle.laws.specs.Pick.{pick}
use Rattle.laws.specs.Parse.{Res, bad, got, answer}
use Rattle.refusal.specs.Tabled.{Tabled}
use Rattle.refusal.specs.declared.Refusal.TheVariants.{Tag, Block, OwnBlock, Payload, Commit, Authority, SecondOwnBlock, Rows}
use Rattle.refusal.proofs.Numbers.{tabled}
use Rattle.types.specs.declared.BlockReference.{BlockReference}
use Rattle.types.specs.Records.{BlockValue, block}
use Rattle.commits.specs.Records.{OwnBlockValue, own_block, commit}
use Rattle.wal_position.specs.Checks.{log_check, unless}
use Rattle.wal_position.proofs.Checks.{log_tabled, unless_passed}
use Rattle.wal_reader.specs.Entries.{Entry, end_of}
use Rattle.wal.specs.Walk as walk
use Rattle.wal.specs.Walk.{Stop, Ending, Walk, stopped, listed, listing, step_from, walk_step, steps_from, walk_at}
use Rattle.wal.proofs.Steps.{step_numbered, walk_by_steps}
use Rattle.committee.proofs.Checks.{committee_tabled}
use Rattle.replay.specs.Items.{Item, is_block, is_own_block, is_commit, Classified, refuse, item, classify, ReplayEntry, block_in}
use Rattle.replay.specs.Rules as rules
use Rattle.replay.specs.Rules.{blocks, pending}
use Rattle.replay.specs.Recovery.{Lent, has_block_in, block_check, rows_check, entry_check, Scanned, scanned, refused_at, scan, bad_payload, Recovery, refused, recovered, decoded, replayed, recover}
use Rattle.bounds.proofs.Counts.{either}

-- a check whose number is 0 or of the table, and what the call goes on with where it passes
checked : {A : Type 0} (P : A → Type 0) (n : ℕ) (refusal : ℕ → A) (rest : A) → ((n ≡ 0 → ⊥) → Tabled n) → (Tabled n → P (refusal n))
    → (n ≡ 0 → P rest) → P (unless n refusal rest)
unfolding unless
checked P zero refusal rest h not_passed on = on refl
checked P (suc n) refusal rest h not_passed on = not_passed (h (λ z. omega (arith, z)))

-- ---- One entry

abbrev Ruled : Classified → Type 0
Ruled (refuse n) = Tabled n
Ruled (item i) = Unit {0}

parsed : {A : Type 0} {n : ℕ} (make : A → Item) → Tabled n → (r : Res A) → Ruled (answer (refuse n) (λ v e. item (make v)) r)
unfolding answer
parsed make t bad = t
parsed make t (got v e) = tt

classified : (a : Entry) → Ruled (classify a)
unfolding classify
classified a =
    either Ruled _ (parsed (λ (b : BlockValue). is_block b.reference) (tabled Block) (block a.payload 0))
    (either Ruled _ tt
    (either Ruled _ (parsed (λ (o : OwnBlockValue). is_own_block o.next_entry o.block.reference) (tabled OwnBlock) (own_block a.payload 0))
    (either Ruled _ tt
    (either Ruled _ (parsed is_commit (tabled Commit) (commit a.payload 0))
    (tabled Tag)))))

-- 13 and 14
block_tabled : (size own : ℕ) (before : List rules.Block) (o : Option BlockReference) → (block_check size own before o ≡ 0 → ⊥)
    → Tabled (block_check size own before o)
unfolding block_check pick
block_tabled size own before none h = absurd (h refl)
block_tabled size own before (some r) h =
    by (leb size r.authority) (eqb r.authority own) (has_block_in own r.round before) h
  where
    by : (s t u : Bool) → (◌≡◌ {A = ℕ} (pick s 13 (pick t (pick u 14 0) 0)) 0 → ⊥) → Tabled (pick s 13 (pick t (pick u 14 0) 0))
    by true t u h = tabled Authority
    by false true true h = tabled SecondOwnBlock
    by false true false h = absurd (h refl)
    by false false u h = absurd (h refl)

-- 15
rows_tabled : (lent : Lent) (l : List ReplayEntry) → (rows_check lent l ≡ 0 → ⊥) → Tabled (rows_check lent l)
unfolding rows_check
rows_tabled lent l =
    let P : ℕ → Type 0 = λ n. (n ≡ 0 → ⊥) → Tabled n in
    let full : P 15 = λ z. tabled Rows in
    either P _ (either P _ (either P _ (either P _ (λ z. absurd (z refl)) full) full) full) full

entry_tabled : (size own : ℕ) (lent : Lent) (before : List ReplayEntry) (a : Entry) → Ruled (entry_check size own lent before a)
unfolding entry_check
entry_tabled size own lent before a = by (classify a) refl (classified a)
  where
    by : (j : Classified) → classify a ≡ j → Ruled j → Ruled (entry_check size own lent before a)
    by (refuse n) is t = rw is t
    by (item i) is t =
        rw is
        (checked Ruled _ _ _ (block_tabled size own (blocks before) (block_in i)) (λ t. t)
        (λ z. checked Ruled _ _ _ (rows_tabled lent (before ++ (record { entry = a; item = i } ∷ []))) (λ t. t) (λ z. tt)))

-- ---- All entries

abbrev Scans : Scanned → Type 0
Scans (scanned l) = Unit {0}
Scans (refused_at n p) = Tabled n

scan_tabled : (size own : ℕ) (lent : Lent) (before : List ReplayEntry) (entries : List Entry) → Scans (scan size own lent before entries)
unfolding scan
scan_tabled size own lent before [] = tt
scan_tabled size own lent before (a ∷ later) =
    by (entry_check size own lent before a) refl (entry_tabled size own lent before a) (λ x. scan_tabled size own lent (before ++ (x ∷ [])) later)
  where
    by : (j : Classified) → entry_check size own lent before a ≡ j → Ruled j
        → ((x : ReplayEntry) → Scans (scan size own lent (before ++ (x ∷ [])) later)) → Scans (scan size own lent before (a ∷ later))
    by (refuse n) is t rest = rw is t
    by (item i) is t rest = rw is (rest (record { entry = a; item = i }))

-- ---- The walk

abbrev pub Ends : Ending → Type 0
Ends (stopped w e) = Unit {0}
Ends (walk.Ending.refused n p) = Tabled n

abbrev pub Steps : walk.Step → Type 0
Steps (listed a) = Unit {0}
Steps (walk.Step.stopped w) = Unit {0}
Steps (walk.Step.refused n p) = Tabled n

module _ (k : ℕ) (s : List ℕ) (used : ℕ) where
  from_tabled : (e : ℕ) (x : walk.Step) → step_from k s used e ≡ x → Steps x
  from_tabled e (listed a) is = tt
  from_tabled e (walk.Step.stopped w) is = tt
  from_tabled e (walk.Step.refused n p) is = step_numbered k s used e is

  pub step_tabled : (e : ℕ) → Steps (walk_step k s used e)
  unfolding walk_step
  step_tabled e =
      checked Steps _ _ _ (log_tabled k used (length s)) (λ t. t) (λ z. from_tabled e (step_from k s used e) refl)

  steps_tabled : (n e : ℕ) (x : walk.Step) → Steps x → Ends (steps_from k s used n e x).ending
  unfolding steps_from listing
  steps_tabled zero e x t = tt
  steps_tabled (suc n) e (listed a) t = steps_tabled n (end_of a) (walk_step k s used (end_of a)) (step_tabled (end_of a))
  steps_tabled (suc n) e (walk.Step.stopped w) t = tt
  steps_tabled (suc n) e (walk.Step.refused m p) t = t

  pub walk_tabled : Ends (walk.walk k s used).ending
  unfolding walk.steps
  walk_tabled = subst (λ (w : Walk). Ends w.ending) (walk_by_steps k s used) (steps_tabled (suc used) 0 (walk_step k s used 0) (step_tabled 0))

-- ---- Recovery

abbrev pub Recovers : Recovery → Type 0
Recovers (refused n p) = Tabled n
Recovers (recovered w e l) = Unit {0}

decoded_tabled : (w : Stop) (e : ℕ) (l : List ReplayEntry) → Recovers (decoded w e l)
unfolding decoded
decoded_tabled w e l = by (bad_payload (pending l)) refl
  where
    by : (o : Option ℕ) → bad_payload (pending l) ≡ o → Recovers (decoded w e l)
    by none is = rw (is, decoded) tt
    by (some q) is = rw (is, decoded) (tabled Payload)

replayed_tabled : (size own : ℕ) (lent : Lent) (w : Walk) → Ends w.ending → Recovers (replayed size own lent w)
unfolding replayed
replayed_tabled size own lent w = by (scan size own lent [] w.entries) refl (scan_tabled size own lent [] w.entries) w.ending refl
  where
    by : (x : Scanned) → scan size own lent [] w.entries ≡ x → Scans x → (y : Ending) → w.ending ≡ y → Ends y → Recovers (replayed size own lent w)
    by (refused_at n p) is t y f u = rw is t
    by (scanned l) is t (stopped word e) f u = rw (is, f) (decoded_tabled word e l)
    by (scanned l) is t (walk.Ending.refused n p) f u = rw (is, f) u

module _ (k : ℕ) (s : List ℕ) (used size own : ℕ) (lent : Lent) where
  pub recovers : Recovers (recover k s used size own lent)
  unfolding recover walk.walk
  recovers =
      checked Recovers _ _ _ (log_tabled k used (length s)) (λ t. t)
      (λ log. checked Recovers _ _ _ (committee_tabled size own) (λ t. t)
      (λ committee. replayed_tabled size own lent (walk_at k s used 0 0)
      (subst (λ (w : Walk). Ends w.ending) (unless_passed (λ n. record { entries = []; ending = walk.Ending.refused n 0 }) (walk_at k s used 0 0) (log_check k used (length s)) log)
      (walk_tabled k s used))))

  pub recovery_tabled : {n p : ℕ} → recover k s used size own lent ≡ refused n p → Tabled n
  recovery_tabled is = subst Recovers is recovers
