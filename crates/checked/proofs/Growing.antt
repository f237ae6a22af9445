-- A log of which recovery is not refused, and one entry more. Assumes nothing.
use mathlib.Core.Path.{◌≡◌, refl, sym, ap, ◌∙◌, subst}
use mathlib.Core.Bool.{Bool, true, false}
use mathlib.Core.List.{List, [], ◌∷◌, ◌++◌}
use mathlib.Core.Option.{none, some}
use Prim.Native.Nat.{ℕ, ◌+◌, ◌^◌, ◌<◌}
use native.Mathlib.Omega.{arith}
use lib.ListN.{length}
use Rattle.laws.specs.Pick.{pick}
use Rattle.laws.specs.Parse.{Res, bad, got, answer}
use Rattle.types.specs.declared.BlockReference.{BlockReference}
use Rattle.types.specs.Records.{StatementValue, payload}
use Rattle.commits.specs.Records.{CommitsValue, commit}
use Rattle.wal_position.proofs.Checks.{Sound}
use Rattle.wal_reader.specs.Entries.{Entry, end_of}
use Rattle.wal_writer.specs.Append.{accepted, place, image_after}
use Rattle.wal_writer.proofs.Places.{accepted_says}
use Rattle.wal.specs.Walk.{END, Walk, stopped, walk_at}
use Rattle.committee.specs.Committee.{committee_check}
use Rattle.replay.specs.Items.{Item, is_block, is_payload, is_own_block, is_state, is_commit, Classified, item, classify, ReplayEntry, block_in}
use Rattle.replay.specs.Rules.{all_keep_pending, can_be_pending, blocks, pending, unprocessed, committed, index}
use Rattle.replay.specs.Recovery.{Lent, scanned, scan, block_check, bad_payload, recovered, recover}
use Rattle.state.proofs.Checks.{classify_payload, classify_state, classify_commit, check_passes, rows_pass}
use Rattle.recovered.proofs.Payloads.{payload_bad, bad_cons}
use Rattle.store.specs.declared.BlockStore.{BlockStore}
use Rattle.cut.specs.PlainLog.{Append}
use Rattle.cut.specs.Cut.{LogImage}
use Rattle.cut.proofs.Growing.{walk_grows, grown_long}
use Rattle.reopened.proofs.Classifying.{reads_of, scan_reads}
use Rattle.reopened.proofs.Reopened.{Carries}
use Rattle.durable.proofs.Scans.{decodes_on, scan_on, scan_passes}
use Rattle.durable.proofs.Recoveries.{not_refused, recovered_so}
use Rattle.durable.proofs.Tables.{served_larger}
use Rattle.checked.specs.Checked.{IsChecked, statements, state, commits}

-- ---- What an entry holds

-- recovery takes it for this item, and its payload decodes
pub record Decodes (a : Entry) : Type 0 where
  pub item : Item
  pub is : classify a ≡ Classified.item item
  pub decodes : payload_bad (record { entry = a; item = item }) ≡ false

module _ (start : ℕ) (a : Append) where
  abbrev entry_at : Entry
  entry_at = record { start = start; tag = a.tag; payload = a.payload }

  as_tag : {tag : ℕ} {i : Item} → a.tag ≡ tag → classify (record { start = start; tag = tag; payload = a.payload }) ≡ item i
      → classify entry_at ≡ item i
  as_tag {i = i} h = subst (λ (t : ℕ). classify (record { start = start; tag = t; payload = a.payload }) ≡ item i) (sym h)

  payload_holds : (payload a.payload 0 ≡ bad → ⊥) → (x : Res (List StatementValue)) → payload a.payload 0 ≡ x
      → payload_bad (record { entry = entry_at; item = is_payload }) ≡ false
  unfolding payload_bad answer
  payload_holds good bad is = absurd (good is)
  payload_holds good (got ss e) is = rw is

  commit_holds : a.tag ≡ 5 → (commit a.payload 0 ≡ bad → ⊥) → (x : Res CommitsValue) → commit a.payload 0 ≡ x → Decodes entry_at
  unfolding payload_bad
  commit_holds five good bad is = absurd (good is)
  commit_holds five good (got c e) is =
      record { item = is_commit c; is = as_tag five (classify_commit start a.payload is); decodes = refl }

  pub checked_decodes : IsChecked a → Decodes entry_at
  unfolding payload_bad
  checked_decodes (statements two good) =
      record {
        item = is_payload;
        is = as_tag two (classify_payload start a.payload);
        decodes = payload_holds good (payload a.payload 0) refl;
      }
  checked_decodes (state four) = record { item = is_state; is = as_tag four (classify_state start a.payload); decodes = refl }
  checked_decodes (commits five good) = commit_holds five good (commit a.payload 0) refl

-- a block is no payload
pub block_decodes : (a : Entry) (i : Item) {r : BlockReference} → block_in i ≡ some r → payload_bad (record { entry = a; item = i }) ≡ false
unfolding block_in payload_bad
block_decodes a (is_block q) h = refl
block_decodes a is_payload h = let z : ◌≡◌ {A = ℕ} 0 1 = cc in absurd (omega arith)
block_decodes a (is_own_block next q) h = refl
block_decodes a is_state h = refl
block_decodes a (is_commit c) h = refl

one_decodes : (x : ReplayEntry) → payload_bad x ≡ false → bad_payload (pending (x ∷ [])) ≡ none
unfolding pending all_keep_pending bad_payload pick
one_decodes x h = by (can_be_pending x.item)
  where
    by : (t : Bool) → bad_payload (pick t (x ∷ []) []) ≡ none
    by true = bad_cons x [] ∙ rw h
    by false = refl

-- ---- The log with it

module _ (k size own : ℕ) where
  -- recovery reads the whole log, with some tables
  pub record ReadsWhole (log : LogImage) : Type 0 where
    pub lent : Lent
    pub entries : List ReplayEntry
    pub is : recover k log.image log.used size own lent ≡ recovered END log.used entries

  -- from the walk, and the scan of what it lists
  pub whole_so : {log : LogImage} {es : List Entry} {l : List ReplayEntry} → Sound k log.used (length log.image)
      → committee_check size own ≡ 0
      → walk_at k log.image log.used 0 0 ≡ record { entries = es; ending = stopped END log.used }
      → (lent : Lent) → scan size own lent [] es ≡ scanned l → bad_payload (pending l) ≡ none → ReadsWhole log
  whole_so {log} {es} {l} sound committee walks lent scans decodes =
      record {
        lent = lent;
        entries = l;
        is =
            recovered_so size own lent decodes k log.image log.used sound committee
            (record {
              scans = ap (λ (w : Walk). scan size own lent [] w.entries) walks ∙ scans;
              ends = ap (λ (w : Walk). w.ending) walks;
            });
      }

  module _ {log : LogImage} {s : BlockStore} {words : List ℕ} (h : Carries k size own log s words) where
    -- and what it has scanned
    pub scans_so : (lent : Lent) {l : List ReplayEntry} → recover k log.image log.used size own lent ≡ recovered END log.used l
        → scan size own lent [] h.entries ≡ scanned l
    scans_so lent is =
        ap (λ (w : Walk). scan size own lent [] w.entries) (sym h.walks)
        ∙ (not_refused k log.image log.used size own lent is).read.scans

    module _ (r : ReadsWhole log) (a : Entry) (holds : Decodes a) where
      abbrev read : ReplayEntry
      read = record { entry = a; item = holds.item }

      -- what was lent, and the rows with this entry
      abbrev more : Lent
      more =
          record {
            pending = r.lent.pending + length (pending (r.entries ++ (read ∷ [])));
            unprocessed = r.lent.unprocessed + length (unprocessed (r.entries ++ (read ∷ [])));
            committed = r.lent.committed + length (committed (r.entries ++ (read ∷ [])));
            index = r.lent.index + length (index (r.entries ++ (read ∷ [])));
          }

      scans_more : scan size own more [] h.entries ≡ scanned r.entries
      scans_more =
          scans_so more
          (served_larger k log.image log.used size own r.lent r.is more
          (record { pending = omega arith; unprocessed = omega arith; committed = omega arith; index = omega arith }))

      scans_one : block_check size own (blocks (reads_of h.entries)) (block_in holds.item) ≡ 0
          → scan size own more [] (h.entries ++ (a ∷ [])) ≡ scanned (r.entries ++ (read ∷ []))
      unfolding scan
      scans_one free =
          let reads : r.entries ≡ reads_of h.entries = scan_reads size own more [] h.entries scans_more in
          scan_on size own more [] h.entries (a ∷ []) scans_more
          ∙ scan_passes size own more r.entries a []
          (check_passes size own more r.entries a holds.is
          (subst (λ (l : List ReplayEntry). block_check size own (blocks l) (block_in holds.item) ≡ 0) (sym reads) free)
          (rows_pass more (r.entries ++ (read ∷ [])) (omega arith) (omega arith) (omega arith) (omega arith)))

      pub grows : committee_check size own ≡ 0 → a.tag < 2 ^ 32
          → place k log.used (length log.image) (length a.payload) ≡ accepted a.start
          → block_check size own (blocks (reads_of h.entries)) (block_in holds.item) ≡ 0
          → ReadsWhole (record { used = end_of a; image = image_after (accepted a.start) log.used log.image a.tag a.payload })
      unfolding end_of
      grows committee small is free =
          let says = accepted_says k log.used (length log.image) (length a.payload) a.start is in
          whole_so
          (record {
            low = h.sound.low;
            high = h.sound.high;
            within = omega (arith, says.ends, grown_long k log.used log.image a small is);
            most = omega (arith, says.most);
          })
          committee (walk_grows k log.used log.image a small is h.walks) more (scans_one free)
          (decodes_on r.entries (read ∷ []) (not_refused k log.image log.used size own r.lent r.is).decodes
          ∙ one_decodes read holds.decodes)
