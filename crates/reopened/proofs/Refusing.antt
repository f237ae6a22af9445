-- What a scan of the log's entries can be refused for. Assumes nothing.
use mathlib.Core.Path.{◌≡◌, refl, sym, ap, ◌∙◌, subst}
use mathlib.Core.Bool.{Bool, true, false}
use mathlib.Core.List.Memᴰ
use mathlib.Core.List.{List, [], ◌∷◌, ◌++◌, map, append-nil, append_assoc, map-append, Memᴰ}
use mathlib.Core.Logic.{◌⊎◌, inl, inr, ⊎_elim}
use mathlib.Core.Option.{Option, none, some}
use Prim.Native.Nat.{ℕ, zero, suc}
use native.Mathlib.Omega.{arith}
use lib.Dec.{leb}
use lib.ListN.{length}
use lib.Seq.{get_or-set_other}
use borrow.Author.Tests.{ne_eqb}
use Rattle.laws.specs.Pick.{pick}
use Rattle.laws.specs.Parse.{Res, bad, got, answer}
use Rattle.laws.proofs.Tests.{eqb_cases}
use Rattle.types.specs.declared.BlockReference.{BlockReference}
use Rattle.types.specs.Records.{StatementValue, payload}
use Rattle.commits.specs.Records.{CommitsValue, commit}
use Rattle.wal_position.specs.Checks.{unless}
use Rattle.wal_reader.specs.Entries.{Entry}
use Rattle.index.specs.Keys.{exists_at}
use Rattle.replay.specs.Items.{Item, is_block, is_payload, is_own_block, is_state, is_commit, Classified, refuse, item, classify, ReplayEntry, block_in}
use Rattle.replay.specs.Rules.{gather, blocks, pending, unprocessed, committed, index}
use Rattle.replay.specs.Recovery.{Lent, Scanned, scanned, refused_at, scan, has_block_in, entry_check, block_check, rows_check, bad_payload, refused, recovered, decoded, replayed}
use Rattle.committee.specs.Committee.{committee_check}
use Rattle.wal.specs.Walk.{Stop, stopped}
use Rattle.replay_log.proofs.Scanning.{concluded, replayed_from, replayed_whole}
use Rattle.replay.proofs.Applied.{present_index}
use Rattle.state.specs.Checks.{block_number}
use Rattle.state.proofs.BlockEntries.{exists_present}
use Rattle.state.proofs.Checks.{check_classified, check_block, no_block_lem}
use Rattle.replay_log.specs.Answers.{index_rows}
use Rattle.reopened.specs.Reopened.{unloaded_row, AllClassified, entries_in, Cause, by_committee, by_entry, by_rows, by_payload}
use Rattle.reopened.proofs.Classifying.{read_of, reads_of, read_classified, check_item}
use Rattle.reopened.proofs.Agreeing.{item_no_block, HoldsBlock}

-- ---- 13 and 14, by the store's rows

exists_unloaded : (own round : ℕ) (rows : List (List ℕ)) → exists_at own round (map unloaded_row rows) ≡ exists_at own round rows
unfolding exists_at unloaded_row
exists_unloaded own round [] = refl
exists_unloaded own round (r ∷ rows) =
    rw (get_or-set_other r 7 1 0 0 (λ e. omega arith), get_or-set_other r 7 0 0 0 (λ e. omega arith), exists_unloaded own round rows)

-- what insert checks, recovery checks
pub number_checked : (size own : ℕ) (rows : List (List ℕ)) (l : List ReplayEntry) (r : BlockReference) → map unloaded_row rows ≡ index_rows l
    → block_number size own rows r ≡ block_check size own (blocks l) (some r)
unfolding block_number block_check index_rows
number_checked size own rows l r h =
    let same : exists_at own r.round rows ≡ has_block_in own r.round (blocks l) =
    sym (exists_unloaded own r.round rows)
    ∙ ap (exists_at own r.round) h
    ∙ exists_present own r.round (index l)
    ∙ present_index own r.round l in
    rw same

-- ---- An entry that is refused for its tag, its commit or the tables alone

pub record Fine (size own : ℕ) (before : List ReplayEntry) (a : Entry) : Type 0 where
  pub classified : (m : ℕ) → classify a ≡ refuse m → (m ≡ 8) ⊎ (m ≡ 12)
  pub passes : (i : Item) → classify a ≡ item i → block_check size own (blocks before) (block_in i) ≡ 0

module _ (a : Entry) (one : a.tag ≡ 1 → ⊥) (three : a.tag ≡ 3 → ⊥) where
  commit_refused : (x : Res CommitsValue) {m : ℕ} → answer (refuse 12) (λ (c : CommitsValue) e. item (is_commit c)) x ≡ refuse m → m ≡ 12
  unfolding answer
  commit_refused bad {m} h = let same : 12 ≡ m = cc in sym same
  commit_refused (got c e) h = let z : ◌≡◌ {A = ℕ} 0 1 = cc in absurd (omega arith)

  other_refused : (m : ℕ) → classify a ≡ refuse m → (m ≡ 8) ⊎ (m ≡ 12)
  unfolding classify pick
  other_refused m h =
      ⊎_elim
      (λ two.
      let is : item is_payload ≡ refuse m = rw (ne_eqb a.tag 1 one, two.0) at h in
      let z : ◌≡◌ {A = ℕ} 0 1 = cc in
      absurd (omega arith))
      (λ not_two.
      ⊎_elim
      (λ four.
      let is : item is_state ≡ refuse m = rw (ne_eqb a.tag 1 one, not_two.0, ne_eqb a.tag 3 three, four.0) at h in
      let z : ◌≡◌ {A = ℕ} 0 1 = cc in
      absurd (omega arith))
      (λ not_four.
      ⊎_elim
      (λ five.
      inr
      (commit_refused (commit a.payload 0)
      (rw (ne_eqb a.tag 1 one, not_two.0, ne_eqb a.tag 3 three, not_four.0, five.0) at h)))
      (λ not_five.
      let is : refuse 8 ≡ refuse m =
      rw (ne_eqb a.tag 1 one, not_two.0, ne_eqb a.tag 3 three, not_four.0, not_five.0) at h in
      let same : 8 ≡ m = cc in
      inl (sym same))
      (eqb_cases a.tag 5))
      (eqb_cases a.tag 4))
      (eqb_cases a.tag 2)

  pub fine_other : (size own : ℕ) (before : List ReplayEntry) → Fine size own before a
  fine_other size own before =
      record { classified = other_refused; passes = λ i h. no_block_lem size own before i (item_no_block a one three h) }

-- a block that insert has checked
pub fine_inserted : (size own : ℕ) (before : List ReplayEntry) (a : Entry) {r : BlockReference} → (held : HoldsBlock a r)
    → block_check size own (blocks before) (some r) ≡ 0 → Fine size own before a
fine_inserted size own before a held checks =
    record {
      classified =
          λ m h.
          let both : refuse m ≡ item held.item = sym h ∙ held.is in
          let z : ◌≡◌ {A = ℕ} 0 1 = cc in
          absurd (omega arith);
      passes =
          λ i h.
          let both : item i ≡ item held.item = sym h ∙ held.is in
          let same : i ≡ held.item = cc in
          ap (λ (o : Option BlockReference). block_check size own (blocks before) o) (ap block_in same ∙ held.holds) ∙ checks;
    }

-- ---- A list of such entries

abbrev pub AllFine : ℕ → ℕ → List ReplayEntry → List Entry → Type 0
AllFine size own before [] = Unit {0}
AllFine size own before (a ∷ later) = Fine size own before a × AllFine size own (before ++ read_of a) later

pub fine_one : (size own : ℕ) (before : List ReplayEntry) (later : List Entry) (a : Entry) → AllFine size own before later
    → Fine size own (before ++ reads_of later) a → AllFine size own before (later ++ (a ∷ []))
unfolding reads_of gather
fine_one size own before [] a h f = (subst (λ (l : List ReplayEntry). Fine size own l a) (append-nil before) f, tt)
fine_one size own before (b ∷ later) a h f =
    (h.0, fine_one size own (before ++ read_of b) later a h.1 (subst (λ (l : List ReplayEntry). Fine size own l a) (sym (append_assoc before (read_of b) (gather read_of later))) f))

-- ---- The scan

-- the check of rows is 0 or 15
fifteen_else : (t : Bool) (x : ℕ) → (x ≡ 0) ⊎ (x ≡ 15) → (pick t x 15 ≡ 0) ⊎ (pick t x 15 ≡ 15)
unfolding pick
fifteen_else true x h = h
fifteen_else false x h = inr refl

rows_refused : (lent : Lent) (l : List ReplayEntry) → (rows_check lent l ≡ 0) ⊎ (rows_check lent l ≡ 15)
unfolding rows_check
rows_refused lent l =
    fifteen_else (leb (length (pending l)) lent.pending) _
    (fifteen_else (leb (length (unprocessed l)) lent.unprocessed) _
    (fifteen_else (leb (length (committed l)) lent.committed) _
    (fifteen_else (leb (length (index l)) lent.index) 0 (inl refl))))

refused_rows : (n : ℕ) (i : Item) {m : ℕ} → (n ≡ 0) ⊎ (n ≡ 15) → unless n refuse (item i) ≡ refuse m → (m ≡ 15) × (n ≡ 15)
unfolding unless
refused_rows zero i h e = let z : ◌≡◌ {A = ℕ} 0 1 = cc in absurd (omega arith)
refused_rows (suc n) i {m} h e =
    let same : suc n ≡ m = cc in
    ⊎_elim (λ (z : suc n ≡ 0). absurd (omega arith)) (λ (f : suc n ≡ 15). (sym same ∙ f, f)) h

-- an entry that is refused: by itself, or for the rows with it
data Refusal (lent : Lent) (before : List ReplayEntry) (a : Entry) : ℕ → Type 0 where
  by_itself : {n : ℕ} → (n ≡ 8) ⊎ (n ≡ 12) → classify a ≡ refuse n → Refusal lent before a n
  for_rows : (i : Item) → classify a ≡ item i → rows_check lent (before ++ (record { entry = a; item = i } ∷ [])) ≡ 15 → Refusal lent before a 15

entry_refused : (size own : ℕ) (lent : Lent) (before : List ReplayEntry) (a : Entry) → Fine size own before a → {m : ℕ}
    → entry_check size own lent before a ≡ refuse m → Refusal lent before a m
unfolding entry_check unless
entry_refused size own lent before a fine {m} h = from (classify a) refl
  where
    from : (j : Classified) → classify a ≡ j → Refusal lent before a m
    from (refuse n) e =
        let both : refuse n ≡ refuse m = sym (check_classified size own lent before a e) ∙ h in
        let same : n ≡ m = cc in
        subst (Refusal lent before a) same (by_itself (fine.classified n e) e)
    from (item i) e =
        let rows : ℕ = rows_check lent (before ++ (record { entry = a; item = i } ∷ [])) in
        let is : unless rows refuse (item i) ≡ refuse m = rw (e, fine.passes i e) at h in
        let full = refused_rows rows i (rows_refused lent (before ++ (record { entry = a; item = i } ∷ []))) is in
        subst (Refusal lent before a) (sym full.0) (for_rows i e full.1)

classified_one : (l : List ReplayEntry) (x : ReplayEntry) → AllClassified l → classify x.entry ≡ item x.item → AllClassified (l ++ (x ∷ []))
classified_one [] x h j = (j, tt)
classified_one (y ∷ l) x h j = (h.0, classified_one l x h.1 j)

-- an entry more
entries_one : (l : List ReplayEntry) (x : ReplayEntry) (later : List Entry) → entries_in (l ++ (x ∷ [])) ++ later ≡ entries_in l ++ (x.entry ∷ later)
entries_one l x later =
    ap (λ (m : List Entry). m ++ later) (map-append (λ (y : ReplayEntry). y.entry) l (x ∷ [])) ∙ append_assoc (entries_in l) (x.entry ∷ []) later

module _ (size own : ℕ) (lent : Lent) (all : List Entry) where
  -- of an entry behind those that were scanned
  entry_cause : (before : List ReplayEntry) (a : Entry) (later : List Entry) → entries_in before ++ (a ∷ later) ≡ all → AllClassified before
      → {n : ℕ} → Refusal lent before a n → Cause size own lent all n a.start
  entry_cause before a later done classified (by_itself which is) =
      by_entry which a (subst (Memᴰ a) done (Memᴰ.append_right (entries_in before) (Memᴰ.head refl))) is
  entry_cause before a later done classified (for_rows i is full) =
      let x : ReplayEntry = record { entry = a; item = i } in
      by_rows before x later (entries_one before x later ∙ done) (classified_one before x classified is) full

  scan_refused : (before : List ReplayEntry) (later : List Entry) → entries_in before ++ later ≡ all → AllClassified before → AllFine size own before later
      → {n p : ℕ} → scan size own lent before later ≡ refused_at n p → Cause size own lent all n p
  unfolding scan
  scan_refused before [] done classified fine h = let z : ◌≡◌ {A = ℕ} 0 1 = cc in absurd (omega arith)
  scan_refused before (a ∷ later) done classified fine {n} {p} h =
      from (entry_check size own lent before a) refl
      (λ i is same on.
      scan_refused (before ++ (record { entry = a; item = i } ∷ [])) later (entries_one before (record { entry = a; item = i }) later ∙ done)
      (classified_one before (record { entry = a; item = i }) classified is) (subst (λ (l : List ReplayEntry). AllFine size own l later) same fine.1) on)
    where
      from : (j : Classified) → entry_check size own lent before a ≡ j
          → ((i : Item) → classify a ≡ item i → before ++ read_of a ≡ before ++ (record { entry = a; item = i } ∷ [])
          → scan size own lent (before ++ (record { entry = a; item = i } ∷ [])) later ≡ refused_at n p → Cause size own lent all n p)
          → Cause size own lent all n p
      from (refuse m) e rest =
          let both : refused_at m a.start ≡ refused_at n p = rw e at h in
          let number : m ≡ n = cc in
          let start : a.start ≡ p = cc in
          subst (λ (n : ℕ). Cause size own lent all n p) number
          (subst (Cause size own lent all m) start (entry_cause before a later done classified (entry_refused size own lent before a fine.0 e)))
      from (item i) e rest =
          let is : classify a ≡ item i = check_item size own lent before a e in
          let on : scan size own lent (before ++ (record { entry = a; item = i } ∷ [])) later ≡ refused_at n p = rw e at h in
          rest i is (ap (λ (m : List ReplayEntry). before ++ m) (read_classified a is)) on

-- ---- A scan that is not refused: its entries are of that kind

module _ (size own : ℕ) (lent : Lent) where
  entry_fine : (before : List ReplayEntry) (a : Entry) {i : Item} → entry_check size own lent before a ≡ item i → Fine size own before a
  entry_fine before a {i} h =
      record {
        classified =
            λ m e.
            let both : refuse m ≡ item i = sym (check_classified size own lent before a e) ∙ h in
            let z : ◌≡◌ {A = ℕ} 0 1 = cc in
            absurd (omega arith);
        passes =
            λ j e.
            ⊎_elim
            (λ z. z.1)
            (λ n.
            let both : refuse (block_check size own (blocks before) (block_in j)) ≡ item i = sym (check_block size own lent before a e n.1) ∙ h in
            let z : ◌≡◌ {A = ℕ} 0 1 = cc in
            absurd (omega arith))
            (eqb_cases (block_check size own (blocks before) (block_in j)) 0);
      }

  pub scan_fine : (before : List ReplayEntry) (later : List Entry) {l : List ReplayEntry} → scan size own lent before later ≡ scanned l → AllFine size own before later
  unfolding scan
  scan_fine before [] h = tt
  scan_fine before (a ∷ later) {l} h =
      from (entry_check size own lent before a) refl (λ x on. scan_fine (before ++ (x ∷ [])) later on)
    where
      from : (j : Classified) → entry_check size own lent before a ≡ j
          → ((x : ReplayEntry) → scan size own lent (before ++ (x ∷ [])) later ≡ scanned l → AllFine size own (before ++ (x ∷ [])) later)
          → AllFine size own before (a ∷ later)
      from (refuse n) e rest =
          let both : refused_at n a.start ≡ scanned l = rw e at h in
          let z : ◌≡◌ {A = ℕ} 0 1 = cc in
          absurd (omega arith)
      from (item i) e rest =
          let x : ReplayEntry = record { entry = a; item = i } in
          let on : scan size own lent (before ++ (x ∷ [])) later ≡ scanned l = rw e at h in
          let same : before ++ (x ∷ []) ≡ before ++ read_of a =
          ap (λ (m : List ReplayEntry). before ++ m) (sym (read_classified a (check_item size own lent before a e))) in
          (entry_fine before a e, subst (λ (m : List ReplayEntry). AllFine size own m later) same (rest x on))

-- ---- A payload that does not decode

-- a read of the list that starts at p
record Undecoded (l : List ReplayEntry) (p : ℕ) : Type 0 where
  read : ReplayEntry
  there : Memᴰ read l
  is : read.item ≡ is_payload
  undecoded : payload read.entry.payload 0 ≡ bad
  start : read.entry.start ≡ p

later_undecoded : (x : ReplayEntry) {l : List ReplayEntry} {p : ℕ} → Undecoded l p → Undecoded (x ∷ l) p
later_undecoded x u =
    record { read = u.read; there = Memᴰ.tail u.there; is = u.is; undecoded = u.undecoded; start = u.start }

bad_undecoded : (l : List ReplayEntry) {p : ℕ} → bad_payload l ≡ some p → Undecoded l p
unfolding bad_payload answer
bad_undecoded [] h = let z : ◌≡◌ {A = ℕ} 0 1 = cc in absurd (omega arith)
bad_undecoded (x ∷ l) {p} h = by (λ g. later_undecoded x (bad_undecoded l g)) x.item refl (payload x.entry.payload 0) refl
  where
    by : (bad_payload l ≡ some p → Undecoded (x ∷ l) p) → (i : Item) → x.item ≡ i → (y : Res (List StatementValue)) → payload x.entry.payload 0 ≡ y
        → Undecoded (x ∷ l) p
    by later (is_block r) is y e = later (rw is at h)
    by later is_payload is bad e =
        let here : some x.entry.start ≡ some p = rw (is, e) at h in
        let start : x.entry.start ≡ p = cc in
        record { read = x; there = Memᴰ.head refl; is = is; undecoded = e; start = start }
    by later is_payload is (got ss f) e = later (rw (is, e) at h)
    by later (is_own_block m r) is y e = later (rw is at h)
    by later is_state is y e = later (rw is at h)
    by later (is_commit c) is y e = later (rw is at h)

-- what a scan that is not refused has read
scan_classified : (size own : ℕ) (lent : Lent) (before : List ReplayEntry) (later : List Entry) {l : List ReplayEntry} → scan size own lent before later ≡ scanned l
    → AllClassified before → (entries_in l ≡ entries_in before ++ later) × AllClassified l
unfolding scan
scan_classified size own lent before [] {l} h classified =
    let same : before ≡ l = cc in
    (ap entries_in (sym same) ∙ sym (append-nil (entries_in before)), subst AllClassified same classified)
scan_classified size own lent before (a ∷ later) {l} h classified =
    from (entry_check size own lent before a) refl
    (λ i is on. scan_classified size own lent (before ++ (record { entry = a; item = i } ∷ [])) later on (classified_one before (record { entry = a; item = i }) classified is))
  where
    from : (j : Classified) → entry_check size own lent before a ≡ j
        → ((i : Item) → classify a ≡ item i → scan size own lent (before ++ (record { entry = a; item = i } ∷ [])) later ≡ scanned l
        → (entries_in l ≡ entries_in (before ++ (record { entry = a; item = i } ∷ [])) ++ later) × AllClassified l)
        → (entries_in l ≡ entries_in before ++ (a ∷ later)) × AllClassified l
    from (refuse n) e rest =
        let both : refused_at n a.start ≡ scanned l = rw e at h in
        let z : ◌≡◌ {A = ℕ} 0 1 = cc in
        absurd (omega arith)
    from (item i) e rest =
        let on : scan size own lent (before ++ (record { entry = a; item = i } ∷ [])) later ≡ scanned l = rw e at h in
        let r = rest i (check_item size own lent before a e) on in
        (r.0 ∙ entries_one before (record { entry = a; item = i }) later, r.1)

-- ---- Recovery

module _ (size own : ℕ) (lent : Lent) (entries : List Entry) where
  decoded_refused : (w : Stop) (e : ℕ) (l : List ReplayEntry) {n p : ℕ} → entries_in l ≡ entries → AllClassified l → decoded w e l ≡ refused n p
      → Cause size own lent entries n p
  unfolding decoded
  decoded_refused w e l {n} {p} these classified h = from (bad_payload (pending l)) refl
    where
      from : (o : Option ℕ) → bad_payload (pending l) ≡ o → Cause size own lent entries n p
      from none f =
          let both : recovered w e l ≡ refused n p = rw (f, decoded) at h in
          let z : ◌≡◌ {A = ℕ} 0 1 = cc in
          absurd (omega arith)
      from (some q) f =
          let both : refused 11 q ≡ refused n p = rw (f, decoded) at h in
          let number : 11 ≡ n = cc in
          let place : q ≡ p = cc in
          let u = bad_undecoded (pending l) f in
          subst (λ (n : ℕ). Cause size own lent entries n p) number
          (subst (Cause size own lent entries 11) (u.start ∙ place) (by_payload l these classified u.read u.there u.is u.undecoded))

  replay_refused : AllFine size own [] entries → (word : Stop) (end : ℕ) {n p : ℕ}
      → replayed size own lent (record { entries = entries; ending = stopped word end }) ≡ refused n p → Cause size own lent entries n p
  unfolding replayed_from concluded
  replay_refused fine word end {n} {p} h = from (scan size own lent [] entries) refl
    where
      whole : replayed_from size own lent [] (record { entries = entries; ending = stopped word end }) ≡ refused n p
      whole = sym (replayed_whole size own lent (record { entries = entries; ending = stopped word end })) ∙ h

      from : (x : Scanned) → scan size own lent [] entries ≡ x → Cause size own lent entries n p
      from (refused_at m q) s =
          let both : refused m q ≡ refused n p = rw s at whole in
          let number : m ≡ n = cc in
          let place : q ≡ p = cc in
          subst (λ (n : ℕ). Cause size own lent entries n p) number
          (subst (Cause size own lent entries m) place (scan_refused size own lent entries [] entries refl tt fine s))
      from (scanned l) s =
          let both : decoded word end l ≡ refused n p = rw s at whole in
          let read = scan_classified size own lent [] entries s tt in
          decoded_refused word end l read.0 read.1 both

  pub recover_refused : AllFine size own [] entries → (word : Stop) (end : ℕ) {n p : ℕ}
      → unless (committee_check size own) (λ m. refused m 0) (replayed size own lent (record { entries = entries; ending = stopped word end })) ≡ refused n p
      → Cause size own lent entries n p
  unfolding unless
  recover_refused fine word end {n} {p} h = from (committee_check size own) refl
    where
      from : (c : ℕ) → committee_check size own ≡ c → Cause size own lent entries n p
      from zero is = replay_refused fine word end (rw is at h)
      from (suc c) is =
          let both : refused (suc c) 0 ≡ refused n p = rw is at h in
          let number : suc c ≡ n = cc in
          let place : 0 ≡ p = cc in
          subst (λ (n : ℕ). Cause size own lent entries n p) number
          (subst (Cause size own lent entries (suc c)) place (by_committee (omega arith) is))
