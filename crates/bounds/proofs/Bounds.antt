-- The bounds, by one induction over the walk and the scan of what it lists. Assumes nothing.
use mathlib.Core.Path.{◌≡◌, refl, sym, ap, subst}
use mathlib.Core.List.{List, [], ◌∷◌, ◌++◌}
use mathlib.Core.Option.{Option, none, some}
use Prim.Native.Nat.{ℕ, zero, suc, ◌*◌, ◌^◌, ◌≤◌, ◌<◌}
use native.Mathlib.Omega.{arith}
use lib.Dec.{leb}
use lib.ListN.{length, length-append}
use borrow.Author.Tests.{leb-false}
use Rattle.laws.specs.Bytes.{AllBytes}
use Rattle.laws.proofs.AllBytes.{bytes_part}
use Rattle.entry.specs.Entry.{payload_at}
use Rattle.types.specs.declared.BlockReference.{BlockReference}
use Rattle.wal_position.specs.Checks.{log_check, unless}
use Rattle.wal_position.proofs.Checks.{Sound, passed_sound}
use Rattle.wal_position.proofs.Regions.{lt_next}
use Rattle.wal_reader.specs.Entries.{Entry, end_of}
use Rattle.wal_reader.specs.Look.{Look, announced, look_at}
use Rattle.wal.specs.Walk as walk
use Rattle.wal.specs.Walk.{Stop, ZEROS, Move, stop, go, list, move, move_at, Walk, listing, follow, walk_at}
use Rattle.wal.proofs.Walks.{pick_second, Listed, list_listed, go_ahead}
use Rattle.committee.specs.Committee.{committee_check}
use Rattle.replay.specs.Items.{Item, Classified, refuse, item, classify, ReplayEntry, block_in}
use Rattle.replay.specs.Rules.{gather, Block, blocks, commits, pending}
use Rattle.replay.specs.Recovery.{Lent, block_check, rows_check, entry_check, bad_payload, Recovery, refused, recovered, decoded, recover}
use Rattle.state.proofs.Checks.{rows_pass}
use Rattle.replay_log.proofs.Scanning.{replayed_from, replayed_whole, entry_refused, entry_passes, nothing_left, walk_refused}
use Rattle.recovery.proofs.Answering.{committee_small}
use Rattle.bounds.specs.Bounds.{Enough, Few, Small, AllSmall, Bounds}
use Rattle.bounds.proofs.Counts.{either, pending_either, sub_dags, pending_few, few}
use Rattle.refusal.proofs.Numbers.{numbered}
use Rattle.bounds.proofs.Tabled.{recovery_tabled}
use Rattle.bounds.proofs.Entries.{references_more, Fits, Sized, classify_sized}

-- a check, and what the call goes on with where it passes
checked : {A : Type 0} (P : A → Type 0) (n : ℕ) (refusal : ℕ → A) (rest : A) → P (refusal n) → (n ≡ 0 → P rest) → P (unless n refusal rest)
unfolding unless
checked P zero refusal rest h on = on refl
checked P (suc n) refusal rest h on = h

-- ---- The check of a block, 13 and 14

module _ (size own : ℕ) (before : List Block) where
  block_number_lem : (o : Option BlockReference) → block_check size own before o ≤ 14
  unfolding block_check
  block_number_lem none = omega arith
  block_number_lem (some r) =
      let Low : ℕ → Type 0 = λ n. n ≤ 14 in
      either Low _ (omega arith) (either Low _ (either Low _ (omega arith) (omega arith)) (omega arith))

  block_below : (o : Option BlockReference) → block_check size own before o ≡ 0 → (r : BlockReference) → o ≡ some r → r.authority < size
  unfolding block_check
  block_below o passed r is =
      leb-false size r.authority (pick_second (leb size r.authority) (rw is at passed) (λ z. omega arith)).0

-- ---- The numbers of entries

module _ (size used : ℕ) where
  small_pending : (l : List ReplayEntry) → AllSmall size used l → AllSmall size used (pending l)
  unfolding pending
  small_pending [] h = tt
  small_pending (x ∷ l) h =
      let rest = small_pending l h.1 in
      pending_either (AllSmall size used) x l (h.0, rest) rest

  small_one : (l : List ReplayEntry) (x : ReplayEntry) → AllSmall size used l → Small size used x → AllSmall size used (l ++ (x ∷ []))
  small_one [] x h g = (g, tt)
  small_one (y ∷ l) x h g = (h.0, small_one l x h.1 g)

-- ---- The refusals of a walk, 5 to 7

abbrev LowMove : Move → Type 0
LowMove (stop w) = Unit {0}
LowMove (go p) = Unit {0}
LowMove (walk.Move.refuse n p) = n ≤ 7
LowMove (list a) = Unit {0}

move_low : (k : ℕ) (s : List ℕ) (used e p : ℕ) → LowMove (move_at k s used e p)
unfolding move_at move look_at announced
move_low k s used e p =
    let Low : Look → Type 0 = λ l. LowMove (move k used e p l) in
    either Low _ tt
    (either Low _
    (either Low _
    (either Low _ (either Low _ (either LowMove _ tt tt) (omega arith))
    (either Low _ (either Low _ (either Low _ (either Low _ tt (omega arith)) tt) (omega arith)) (omega arith)))
    tt)
    tt)

-- ---- Recovery

-- The bounds on numbers of refusals are for every image, and those on rows and entries for one of bytes: `AllBytes s` stands before these alone.
module _ (k : ℕ) (s : List ℕ) (used size own : ℕ) (lent : Lent) where
  -- what is to hold of a refusal's number
  record Number (n : ℕ) : Type 0 where
    most : n ≤ 18
    rows : AllBytes s → Enough used lent → n ≡ 15 → ⊥

  low : {n : ℕ} → n ≤ 14 → Number n
  low h = record { most = omega arith; rows = λ all enough is. omega arith }

  -- what is to hold of entries that end at e or before
  record Held (e : ℕ) (l : List ReplayEntry) : Type 0 where
    within : e ≤ used
    entries : 16 * length l ≤ e
    references : AllBytes s → 16 * length (sub_dags (commits l)) ≤ e
    small : AllBytes s → AllSmall size used l

  held_few : {e : ℕ} {l : List ReplayEntry} → Held e l → AllBytes s → Few used l
  held_few {e} {l} h all = few used l (omega arith) (omega (arith, h.references all))

  -- what is to hold of an answer
  abbrev Outcome : Recovery → Type 0
  Outcome (refused n p) = Number n
  Outcome (recovered w e l) = (used ≤ 2 ^ 40) × (size ≤ 128) × Held e l

  rows_number : {e : ℕ} (l : List ReplayEntry) → Held e l → Number (rows_check lent l)
  unfolding rows_check
  rows_number l held =
      let Most : ℕ → Type 0 = λ n. n ≤ 18 in
      record {
        most = either Most _ (either Most _ (either Most _ (either Most _ (omega arith) (omega arith)) (omega arith)) (omega arith)) (omega arith);
        rows = λ all enough is.
            let rows : Few used l = held_few held all in
            let none : rows_check lent l ≡ 0 = rows_pass lent l (omega arith) (omega arith) (omega arith) (omega arith) in
            omega arith;
      }

  -- ---- One entry

  -- what is to hold of an entry's check, with the entries before it
  abbrev Checked : List ReplayEntry → Entry → Classified → Type 0
  Checked before a (refuse n) = Number n
  Checked before a (item i) = Held (end_of a) (before ++ (record { entry = a; item = i } ∷ []))

  module _ (image : used ≤ length s) (e p : ℕ) (from : e ≤ p) (before : List ReplayEntry) (held : Held e before)
      (a : Entry) (at : Listed k s used p a) where
    entry_held : (i : Item) → Sized a (item i) → block_check size own (blocks before) (block_in i) ≡ 0 → Checked before a (item i)
    unfolding end_of payload_at
    entry_held i sized passed =
        let x : ReplayEntry = record { entry = a; item = i } in
        let fits : AllBytes s → Fits x = λ all. sized (subst AllBytes (sym at.payload) (bytes_part s _ _ all)) in
        let ends = at.ends image in
        let more = length-append (sub_dags (commits before)) (sub_dags (commits (x ∷ []))) in
        record {
          within = omega arith;
          entries = omega (arith, held.entries, length-append before (x ∷ []));
          references = λ all. omega (arith, held.references all, (fits all).references, more, ap length (references_more before (x ∷ [])));
          small = λ all.
              small_one size used before x (held.small all)
              (record { start = omega arith; authority = block_below size own (blocks before) (block_in i) passed; round = (fits all).round });
        }

    entry_checked : Checked before a (entry_check size own lent before a)
    unfolding entry_check
    entry_checked = by (classify a) refl (classify_sized a)
      where
        by : (j : Classified) → classify a ≡ j → Sized a j → Checked before a (entry_check size own lent before a)
        by (refuse n) is sized = rw is (low (omega arith))
        by (item i) is sized =
            rw is
            (checked (Checked before a) _ _ _ (low (block_number_lem size own (blocks before) (block_in i)))
            (λ passed.
            let now = entry_held i sized passed in
            checked (Checked before a) _ _ _ (rows_number _ now) (λ z. now)))

    -- the replay is refused at it, or goes on behind it
    entry_replays : (w : Walk) → ((l : List ReplayEntry) → Held (end_of a) l → Outcome (replayed_from size own lent l w))
        → Outcome (replayed_from size own lent before (listing a w))
    entry_replays w later = by (entry_check size own lent before a) refl entry_checked
      where
        by : (j : Classified) → entry_check size own lent before a ≡ j → Checked before a j → Outcome (replayed_from size own lent before (listing a w))
        by (refuse m) is number = rw (entry_refused size own lent before a w is) number
        by (item i) is now = rw (entry_passes size own lent before a w is) (later _ now)

  -- ---- The walk

  module _ (sound : Sound k used (length s)) (committee : size ≤ 128) where
    stops : (w : Stop) (e : ℕ) (l : List ReplayEntry) → Held e l → Outcome (decoded w e l)
    unfolding decoded
    stops w e l held = by (bad_payload (pending l)) refl
      where
        by : (o : Option ℕ) → bad_payload (pending l) ≡ o → Outcome (decoded w e l)
        by none f = rw (f, decoded) (sound.most, committee, held)
        by (some q) f = rw (f, decoded) (low (omega arith))

    replays : (n e p : ℕ) → e ≤ p → (before : List ReplayEntry) → Held e before
        → Outcome (replayed_from size own lent before (follow k s used n e (move_at k s used e p)))
    unfolding follow
    replays zero e p from before held = rw (nothing_left size own lent before ZEROS e) (stops ZEROS e before held)
    replays (suc n) e p from before held = by (replays n) (move_at k s used e p) refl (move_low k s used e p)
      where
        by : ((e p : ℕ) → e ≤ p → (before : List ReplayEntry) → Held e before
            → Outcome (replayed_from size own lent before (follow k s used n e (move_at k s used e p))))
            → (m : Move) → move_at k s used e p ≡ m → LowMove m → Outcome (replayed_from size own lent before (follow k s used (suc n) e m))
        by later (stop w) is number = rw (nothing_left size own lent before w e) (stops w e before held)
        by later (go q) is number = later e q (omega (arith, go_ahead k s used e p is, lt_next k p)) before held
        by later (walk.Move.refuse m q) is number = rw (walk_refused size own lent before m q) (low (omega arith))
        by later (list a) is number =
            entry_replays sound.within e p from before held a (list_listed k s used e p is) _ (later (end_of a) (end_of a) (omega arith))

  log_number : Number (log_check k used (length s))
  unfolding log_check
  log_number = either Number _ (either Number _ (either Number _ (low (omega arith)) (low (omega arith))) (low (omega arith))) (low (omega arith))

  committee_number : Number (committee_check size own)
  unfolding committee_check
  committee_number =
      let eighteen : Number 18 = record { most = omega arith; rows = λ all enough is. omega arith } in
      either Number _ (either Number _ (either Number _ (low (omega arith)) eighteen) eighteen) eighteen

  outcome : Outcome (recover k s used size own lent)
  unfolding recover walk_at commits gather
  outcome =
      checked Outcome _ _ _ log_number
      (λ log.
      checked Outcome _ _ _ committee_number
      (λ passed.
      rw (replayed_whole size own lent (walk_at k s used 0 0))
      (replays (passed_sound k used (length s) log) (committee_small size own passed) _ 0 0 (omega arith) []
      (record { within = omega arith; entries = omega arith; references = λ all. omega arith; small = λ all. tt }))))

  -- the same, for an answer that it is known to give
  so : {r : Recovery} → recover k s used size own lent ≡ r → Outcome r
  so h = subst Outcome h outcome

pub bounds : Bounds
bounds =
    record {
      enough = λ k s used size own lent p all enough h. (so k s used size own lent h).rows all enough refl;
      numbered = λ k s used size own lent n p h. numbered (recovery_tabled k s used size own lent h);
      number = λ k s used size own lent n p h. (so k s used size own lent h).most;
      used = λ k s used size own lent w e l h. (so k s used size own lent h).0;
      size = λ k s used size own lent w e l h. (so k s used size own lent h).1;
      pending = λ k s used size own lent w e l h. let held = (so k s used size own lent h).2 in omega (arith, held.entries, held.within, pending_few l);
      few = λ k s used size own lent w e l all h. held_few k s used size own lent (so k s used size own lent h).2 all;
      small = λ k s used size own lent w e l all h. small_pending size used l ((so k s used size own lent h).2.small all);
    }
