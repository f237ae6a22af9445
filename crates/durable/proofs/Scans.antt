-- The scan of entries behind others that it let pass, and what recovery makes of it. Assumes nothing.
use mathlib.Core.Path.{◌≡◌, refl, sym, ap, ◌∙◌, subst}
use mathlib.Core.Bool.{Bool, true, false}
use mathlib.Core.List.{List, [], ◌∷◌, ◌++◌, map, append-nil, append_assoc}
use mathlib.Core.Logic.{◌⊎◌, inl, inr}
use mathlib.Core.Option.{Option, none, some}
use Prim.Native.Nat.{ℕ}
use native.Mathlib.Omega.{arith}
use Rattle.laws.specs.Pick.{pick}
use Rattle.wal_reader.specs.Entries.{Entry}
use Rattle.wal.specs.Walk as walk
use Rattle.wal.specs.Walk.{Stop, Ending, Walk, stopped}
use Rattle.replay.specs.Items.{Item, Classified, refuse, item, ReplayEntry}
use Rattle.replay.specs.Rules.{keeps_pending, all_keep_pending, can_be_pending, pending}
use Rattle.replay.specs.Recovery.{Lent, Scanned, scanned, refused_at, scan, entry_check, bad_payload, refused, recovered, decoded, replayed}
use Rattle.recovered.proofs.Payloads.{payload_bad, bad_cons}
use Rattle.replay_log.proofs.Scanning.{concluded, replayed_from, replayed_whole}
use Rattle.replay_log.proofs.Accepted.{replay_scanned}
use Rattle.durable.specs.Durable.{BeginsWith}
use Rattle.durable.proofs.Cutting.{Place, refusal_place}

-- ---- Pending payloads

module _ (p : ℕ) where
  all_keep : (l m : List ReplayEntry) → all_keep_pending p (l ++ m) ≡ pick (all_keep_pending p l) (all_keep_pending p m) false
  unfolding all_keep_pending pick
  all_keep [] m = refl
  all_keep (x ∷ l) m = by (keeps_pending p x.item) (all_keep l m)
    where
      by : (t : Bool) → all_keep_pending p (l ++ m) ≡ pick (all_keep_pending p l) (all_keep_pending p m) false
          → pick t (all_keep_pending p (l ++ m)) false ≡ pick (pick t (all_keep_pending p l) false) (all_keep_pending p m) false
      by true h = h
      by false h = refl

-- whether an entry is pending, with the entries behind it
is_pending : ReplayEntry → List ReplayEntry → Bool
is_pending x later = pick (can_be_pending x.item) (all_keep_pending x.entry.start later) false

-- what is pending with more entries behind was pending without them
still_pending : (x : ReplayEntry) (l m : List ReplayEntry) → is_pending x (l ++ m) ≡ true → is_pending x l ≡ true
unfolding is_pending pick
still_pending x l m h =
    by (can_be_pending x.item) (all_keep_pending x.entry.start l) (all_keep_pending x.entry.start m)
    (rw (all_keep x.entry.start l m) at h)
  where
    by : (c t s : Bool) → pick c (pick t s false) false ≡ true → pick c t false ≡ true
    by true true s h = refl
    by true false s h = h
    by false t s h = h

-- the first payload that 11 refuses: the first entry's, if it is pending, or one behind it
bad_first : (x : ReplayEntry) (later : List ReplayEntry)
    → bad_payload (pending (x ∷ later))
    ≡ pick (is_pending x later) (pick (payload_bad x) (some x.entry.start) (bad_payload (pending later))) (bad_payload (pending later))
unfolding pending is_pending pick
bad_first x later = by (can_be_pending x.item) (all_keep_pending x.entry.start later)
  where
    by : (c t : Bool)
        → bad_payload (pick c (pick t (x ∷ pending later) (pending later)) (pending later))
        ≡ pick (pick c t false) (pick (payload_bad x) (some x.entry.start) (bad_payload (pending later))) (bad_payload (pending later))
    by true true = bad_cons x (pending later)
    by true false = refl
    by false t = refl

rest_decodes : (t b : Bool) (p : ℕ) {o : Option ℕ} → pick t (pick b (some p) o) o ≡ none → o ≡ none
unfolding pick
rest_decodes true true p h = absurd (let z : ◌≡◌ {A = ℕ} 0 1 = cc in omega arith)
rest_decodes true false p h = h
rest_decodes false b p h = h

first_decodes : (s t b : Bool) (p : ℕ) (o q : Option ℕ) → (s ≡ true → t ≡ true) → pick t (pick b (some p) o) o ≡ none
    → pick s (pick b (some p) q) q ≡ q
unfolding pick
first_decodes true true true p o q still h = absurd (let z : ◌≡◌ {A = ℕ} 0 1 = cc in omega arith)
first_decodes true true false p o q still h = refl
first_decodes true false b p o q still h = absurd (let both : false ≡ true = still refl in let z : ◌≡◌ {A = ℕ} 0 1 = cc in omega arith)
first_decodes false t b p o q still h = refl

-- where the pending payloads of l decode, 11 refuses none of them, whatever stands behind
pub decodes_on : (l m : List ReplayEntry) → bad_payload (pending l) ≡ none → bad_payload (pending (l ++ m)) ≡ bad_payload (pending m)
decodes_on [] m h = refl
decodes_on (x ∷ l) m h =
    let none_bad = sym (bad_first x l) ∙ h in
    bad_first x (l ++ m)
    ∙ first_decodes (is_pending x (l ++ m)) (is_pending x l) (payload_bad x) x.entry.start (bad_payload (pending l))
    (bad_payload (pending (l ++ m))) (still_pending x l m) none_bad
    ∙ decodes_on l m (rest_decodes (is_pending x l) (payload_bad x) x.entry.start none_bad)

-- the entries of reads
abbrev entries_of : List ReplayEntry → List Entry
entries_of l = map (λ (x : ReplayEntry). x.entry) l

bad_there : (t b : Bool) {p q : ℕ} {o : Option ℕ} → pick t (pick b (some p) o) o ≡ some q → (p ≡ q) ⊎ (o ≡ some q)
unfolding pick
bad_there true true h = inl cc
bad_there true false h = inr h
bad_there false b h = inr h

bad_place : (l : List ReplayEntry) (p : ℕ) (x : Ending) → bad_payload (pending l) ≡ some p → Place p (entries_of l) x
unfolding pending bad_payload
bad_place [] p x h = absurd (let z : ◌≡◌ {A = ℕ} 0 1 = cc in omega arith)
bad_place (y ∷ l) p x h = by (bad_there (is_pending y l) (payload_bad y) (sym (bad_first y l) ∙ h)) (bad_place l p x)
  where
    by : (y.entry.start ≡ p) ⊎ (bad_payload (pending l) ≡ some p) → (bad_payload (pending l) ≡ some p → Place p (entries_of l) x)
        → (y.entry.start ≡ p) ⊎ Place p (entries_of l) x
    by (inl start) later = inl start
    by (inr there) later = inr (later there)

module _ (w : Stop) (e : ℕ) (l : List ReplayEntry) where
  decoded_refuses : {n p : ℕ} → decoded w e l ≡ refused n p → bad_payload (pending l) ≡ some p
  unfolding decoded
  decoded_refuses {n} {p} h = from (bad_payload (pending l)) refl
    where
      from : (o : Option ℕ) → bad_payload (pending l) ≡ o → bad_payload (pending l) ≡ some p
      from none f =
          let both : recovered w e l ≡ refused n p = rw (f, decoded) at h in
          let z : ◌≡◌ {A = ℕ} 0 1 = cc in
          absurd (omega arith)
      from (some q) f =
          let both : refused 11 q ≡ refused n p = rw (f, decoded) at h in
          let same : q ≡ p = cc in
          f ∙ ap (λ (r : ℕ). some r) same

  decoded_serves : {v : Stop} {f : ℕ} {m : List ReplayEntry} → decoded w e l ≡ recovered v f m → bad_payload (pending l) ≡ none
  unfolding decoded
  decoded_serves {v} {f} {m} h = from (bad_payload (pending l)) refl
    where
      from : (o : Option ℕ) → bad_payload (pending l) ≡ o → bad_payload (pending l) ≡ none
      from none is = is
      from (some q) is =
          let both : refused 11 q ≡ recovered v f m = rw (is, decoded) at h in
          let z : ◌≡◌ {A = ℕ} 0 1 = cc in
          absurd (omega arith)

-- ---- The scan

-- what a scan has read: the entries `before`, and the others as they stand
pub record Adds (before : List ReplayEntry) (entries : List Entry) (l : List ReplayEntry) : Type 0 where
  pub more : List ReplayEntry
  pub is : l ≡ before ++ more
  pub reads : entries_of more ≡ entries

module _ (size own : ℕ) (lent : Lent) where
  module _ (before : List ReplayEntry) (a : Entry) (later : List Entry) where
    pub scan_passes : {i : Item} → entry_check size own lent before a ≡ item i
        → scan size own lent before (a ∷ later) ≡ scan size own lent (before ++ (record { entry = a; item = i } ∷ [])) later
    unfolding scan
    scan_passes h = rw h

    pub scan_refuses : {n : ℕ} → entry_check size own lent before a ≡ refuse n
        → scan size own lent before (a ∷ later) ≡ refused_at n a.start
    unfolding scan
    scan_refuses h = rw h

  -- entries behind others that the scan let pass
  pub scan_on : (before : List ReplayEntry) (xs ys : List Entry) {l : List ReplayEntry} → scan size own lent before xs ≡ scanned l
      → scan size own lent before (xs ++ ys) ≡ scan size own lent l ys
  unfolding scan
  scan_on before [] ys {l} h = let same : before ≡ l = cc in ap (λ (b : List ReplayEntry). scan size own lent b ys) same
  scan_on before (a ∷ xs) ys {l} h = from (entry_check size own lent before a) refl (λ x. scan_on (before ++ (x ∷ [])) xs ys)
    where
      from : (j : Classified) → entry_check size own lent before a ≡ j
          → ((x : ReplayEntry) → scan size own lent (before ++ (x ∷ [])) xs ≡ scanned l
          → scan size own lent (before ++ (x ∷ [])) (xs ++ ys) ≡ scan size own lent l ys)
          → scan size own lent before (a ∷ xs ++ ys) ≡ scan size own lent l ys
      from (refuse n) e rest =
          let both : refused_at n a.start ≡ scanned l = sym (scan_refuses before a xs e) ∙ h in
          let z : ◌≡◌ {A = ℕ} 0 1 = cc in
          absurd (omega arith)
      from (item i) e rest =
          scan_passes before a (xs ++ ys) e ∙ rest (record { entry = a; item = i }) (sym (scan_passes before a xs e) ∙ h)

  scan_adds : (before : List ReplayEntry) (ys : List Entry) {l : List ReplayEntry} → scan size own lent before ys ≡ scanned l
      → Adds before ys l
  unfolding scan
  scan_adds before [] {l} h =
      let same : before ≡ l = cc in
      record { more = []; is = sym same ∙ sym (append-nil before); reads = refl }
  scan_adds before (a ∷ ys) {l} h = from (entry_check size own lent before a) refl (λ x. scan_adds (before ++ (x ∷ [])) ys)
    where
      from : (j : Classified) → entry_check size own lent before a ≡ j
          → ((x : ReplayEntry) → scan size own lent (before ++ (x ∷ [])) ys ≡ scanned l → Adds (before ++ (x ∷ [])) ys l)
          → Adds before (a ∷ ys) l
      from (refuse n) e rest =
          let both : refused_at n a.start ≡ scanned l = sym (scan_refuses before a ys e) ∙ h in
          let z : ◌≡◌ {A = ℕ} 0 1 = cc in
          absurd (omega arith)
      from (item i) e rest =
          let x : ReplayEntry = record { entry = a; item = i } in
          let more = rest x (sym (scan_passes before a ys e) ∙ h) in
          record {
            more = x ∷ more.more;
            is = more.is ∙ append_assoc before (x ∷ []) more.more;
            reads = ap (λ (es : List Entry). a ∷ es) more.reads;
          }

  scan_place : (before : List ReplayEntry) (ys : List Entry) (n p : ℕ) (x : Ending) → scan size own lent before ys ≡ refused_at n p
      → Place p ys x
  unfolding scan
  scan_place before [] n p x h = absurd (let z : ◌≡◌ {A = ℕ} 0 1 = cc in omega arith)
  scan_place before (a ∷ ys) n p x h = from (entry_check size own lent before a) refl (λ y. scan_place (before ++ (y ∷ [])) ys n p x)
    where
      from : (j : Classified) → entry_check size own lent before a ≡ j
          → ((y : ReplayEntry) → scan size own lent (before ++ (y ∷ [])) ys ≡ refused_at n p → Place p ys x)
          → (a.start ≡ p) ⊎ Place p ys x
      from (refuse m) e rest =
          let both : refused_at m a.start ≡ refused_at n p = sym (scan_refuses before a ys e) ∙ h in
          inl cc
      from (item i) e rest = inr (rest (record { entry = a; item = i }) (sym (scan_passes before a ys e) ∙ h))

  -- ---- Recovery's outcome, behind entries l that it let pass and whose pending payloads decode

  pub concluded_place : (l : List ReplayEntry) → bad_payload (pending l) ≡ none → (ys : List Entry) (x : Ending) (n p : ℕ)
      → concluded (scan size own lent l ys) x ≡ refused n p → Place p ys x
  unfolding concluded
  concluded_place l decodes ys x n p h = from (scan size own lent l ys) refl x refl
    where
      from : (y : Scanned) → scan size own lent l ys ≡ y → (z : Ending) → x ≡ z → Place p ys x
      from (refused_at m q) s z f =
          let both : refused m q ≡ refused n p = rw s at h in
          let same : q ≡ p = cc in
          scan_place l ys m p x (s ∙ ap (refused_at m) same)
      from (scanned m) s (stopped w e) f =
          let both : decoded w e m ≡ refused n p = rw (s, f) at h in
          let adds = scan_adds l ys s in
          let bad : bad_payload (pending adds.more) ≡ some p =
          sym (decodes_on l adds.more decodes)
          ∙ ap (λ (r : List ReplayEntry). bad_payload (pending r)) (sym adds.is)
          ∙ decoded_refuses w e m both in
          subst (λ (es : List Entry). Place p es x) adds.reads (bad_place adds.more p x bad)
      from (scanned m) s (walk.Ending.refused i q) f =
          let both : refused i q ≡ refused n p = rw (s, f) at h in
          let same : q ≡ p = cc in
          subst (Place p ys) (sym (f ∙ ap (walk.Ending.refused i) same)) (refusal_place ys i p)

  pub scan_begins : (l : List ReplayEntry) (ys : List Entry) {m : List ReplayEntry} → scan size own lent l ys ≡ scanned m → BeginsWith l m
  scan_begins l ys h = let adds = scan_adds l ys h in record { rest = adds.more; is = adds.is }

  -- a replay that is not refused: its pending payloads decode
  pub replayed_decodes : (w : Walk) {word : Stop} {e : ℕ} {l : List ReplayEntry} → replayed size own lent w ≡ recovered word e l
      → bad_payload (pending l) ≡ none
  unfolding replayed_from concluded
  replayed_decodes w {word} {e} {l} h =
      let read = replay_scanned size own lent w h in
      let whole : concluded (scan size own lent [] w.entries) w.ending ≡ recovered word e l =
      sym (replayed_whole size own lent w) ∙ h in
      decoded_serves word e l (rw (read.scans, read.ends) at whole)
