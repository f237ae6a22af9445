-- The theorem: whatever log a node starts from, and whatever calls come then, recovery gives the store's index. Assumes nothing.
use mathlib.Core.Path.{◌≡◌, refl, sym, ap, ◌∙◌, subst, ap₂}
use mathlib.Core.List.{List, [], ◌∷◌, ◌++◌, map, append-nil}
use mathlib.Core.Logic.{◌⊎◌, ⊎_elim}
use mathlib.Core.Option.{some}
use Prim.Native.Nat.{ℕ, ◌^◌, ◌≤◌, ◌<◌}
use native.Mathlib.Omega.{arith}
use lib.ListN.{length, take}
use Rattle.std.proofs.Common.{Result, Ok}
use Rattle.refusal.specs.declared.Refusal.{Refusal}
use Rattle.laws.specs.Bytes.{AllBytes}
use Rattle.wal_writer.specs.declared.WalWriter.{WalWriter}
use Rattle.wal_position.specs.Checks.{log_check, unless}
use Rattle.wal_reader.specs.Entries.{Entry, end_of}
use Rattle.wal_writer.specs.Append as append
use Rattle.wal_writer.specs.Append.{Placed, accepted, place, image_after}
use Rattle.wal.specs.Walk.{Stop, END, Ending, Walk, stopped, walk_at, walk}
use Rattle.wal_position.proofs.Checks.{Sound, sound_passes, passed_sound, unless_passed}
use Rattle.wal_writer.proofs.Places.{accepted_says}
use Rattle.wal.proofs.Prefixes.{onwards, walk_end, Resumes, walk_resumes}
use Rattle.rows.specs.Rows.{rows_of}
use Rattle.tables.specs.Tables.{upserted}
use Rattle.replay.specs.Items.{ReplayEntry}
use Rattle.replay.specs.Rules.{gather, blocks, set_of, index}
use Rattle.replay.specs.Recovery.{block_check, replayed, Lent, recover, refused, recovered}
use Rattle.committee.specs.Committee.{committee_check}
use Rattle.replay.proofs.Applied.{references}
use Rattle.state.specs.Tables.{block_row, summary_of, empty_replay}
use Rattle.state.specs.declared.Replay.{Replay}
use Rattle.state.specs.Checks.{block_number}
use Rattle.state.specs.Holding.{AllDigested}
use Rattle.state.proofs.BlockEntries.{number_below}
use Rattle.state.proofs.Empty.{replay_empty}
use Rattle.replay_log.specs.Answers.{Tables, rows_lent, Answers, index_rows}
use Rattle.recovered.specs.declared.Recovered.{Recovered}
use Rattle.store.specs.declared.BlockStore.{BlockStore}
use Rattle.store.specs.Store.{indexed, opened_of, call_check}
use Rattle.cleanup.specs.Cleanup.{clean_index}
use Rattle.store.proofs.Checked.{call_checked}
use Rattle.indexing.specs.declared.Inserted.{Inserted}
use Rattle.indexing.specs.Indexing.{Insertion, insert, inserted_of, image_with, index_with, loaded_row, store_with}
use Rattle.insert.specs.Insert.{insertion, writer_after, store_after, Inserts}
use Rattle.insert.proofs.Kept.{Passed, accepted_passed}
use Rattle.insert.proofs.Numbers.{Put, ok_accepted}
use Rattle.query.specs.Query.{counted}
use Rattle.cut.specs.PlainLog.{Append}
use Rattle.cut.specs.Cut.{LogImage, used_after, answer_of, after_append}
use Rattle.cut.proofs.Growing.{walk_grows, grown_long}
use Rattle.cut.proofs.Standing.{walk_stands}
use Rattle.reopened.specs.Reopened.{Reachable, new, opens, appends, inserts, cleans, looks, lends, unloaded_row, AgreesWith, Cause, Reopened, Refusals}
use Rattle.replay_log.proofs.Accepted.{Replayed, replay_scanned, unless_recovered}
use Rattle.reopened.proofs.Classifying.{read_of, reads_of, read_classified, reads_one, replay_reads}
use Rattle.reopened.proofs.Rows.{cleaned_rows}
use Rattle.reopened.proofs.Agreeing.{no_block_read, insert_holds, agrees_block, agrees_opened, agrees_recovered}
use Rattle.reopened.proofs.Refusing.{Fine, AllFine, number_checked, fine_other, fine_inserted, fine_one, scan_fine, recover_refused}
use Rattle.reopened.proofs.References.{OfBlock, OfBlocks, OfBytes, blocks_one, no_block_holds, held_holds, every_digested, index_every, stand_bytes, entries_digested}

tag_small : (tag : ℕ) → (tag ≡ 1) ⊎ (tag ≡ 3) → tag < 2 ^ 32
tag_small tag which = ⊎_elim (λ (one : tag ≡ 1). omega arith) (λ (three : tag ≡ 3). omega arith) which

-- ---- What the calls keep

module _ (k : ℕ) (size own : ℕ) where
  -- the walk lists the whole log, and the store's rows and summary are of its entries
  pub record Carries (log : LogImage) (s : BlockStore) (words : List ℕ) : Type 0 where
    pub entries : List Entry
    pub sound : Sound k log.used (length log.image)
    pub walks : walk_at k log.image log.used 0 0 ≡ record { entries = entries; ending = stopped END log.used }
    pub agrees : AgreesWith size own (reads_of entries) s words
    pub digested : OfBlocks OfBytes entries
    pub fine : AllFine size own [] entries

  -- the digests of its index
  pub all_digested : {log : LogImage} {s : BlockStore} {words : List ℕ} (h : Carries log s words) → AllDigested (references (index (reads_of h.entries)))
  all_digested h = every_digested (index (reads_of h.entries)) (index_every OfBytes h.entries h.digested)

  -- ---- One call each

  nothing_read : reads_of [] ≡ []
  unfolding reads_of gather
  nothing_read = refl

  no_rows : (words : List ℕ) → rows_of (length (index [])) words ≡ map block_row (index [])
  unfolding index blocks gather set_of rows_of
  no_rows words = refl

  carries_new : 6 ≤ k → k ≤ 28 → (image words : List ℕ) → Carries (record { used = 0; image = image }) (opened_of size own empty_replay) words
  carries_new low high image words =
      record {
        entries = [];
        sound = record { low = low; high = high; within = omega arith; most = omega arith };
        walks = walk_end k image 0;
        agrees =
            subst (λ (l : List ReplayEntry). AgreesWith size own l (opened_of size own empty_replay) words) (sym nothing_read)
            (subst (λ (r : Replay). AgreesWith size own [] (opened_of size own r) words) (replay_empty own) (agrees_opened size own [] words (no_rows words)));
        digested = tt;
        fine = tt;
      }

  -- a start, from a log of whatever bytes
  module _ (image : List ℕ) (all : AllBytes image) (used : ℕ) (before after : Tables) (r : Recovered) (word : Stop) (e : ℕ) (l : List ReplayEntry)
      (is : recover k image used size own (rows_lent before) ≡ recovered word e l) (answers : Answers used own (recovered word e l) before r after) where
    log_passed : (log_check k used (length image) ≡ 0) × (unless (committee_check size own) (λ n. refused n 0) (replayed size own (rows_lent before) (walk_at k image used 0 0)) ≡ recovered word e l)
    unfolding recover
    log_passed = unless_recovered (log_check k used (length image)) _ is

    pub open_sound : Sound k used (length image)
    open_sound = passed_sound k used (length image) log_passed.0

    pub open_committee : committee_check size own ≡ 0
    open_committee = (unless_recovered (committee_check size own) _ log_passed.1).0

    replays : replayed size own (rows_lent before) (walk_at k image used 0 0) ≡ recovered word e l
    replays = (unless_recovered (committee_check size own) _ log_passed.1).1

    abbrev listed : List Entry
    listed = (walk_at k image used 0 0).entries

    scanned_so : Replayed size own (rows_lent before) (walk_at k image used 0 0) word e l
    scanned_so = replay_scanned size own (rows_lent before) (walk_at k image used 0 0) replays

    resumed : Resumes k image used 0 e listed
    resumed =
        walk_resumes k open_sound.low image used open_sound.within
        (λ j. record { entries = listed; ending = scanned_so.ends j })

    pub resumes_by : e ≤ used
    resumes_by = resumed.inside

    pub carries_open : Carries (record { used = e; image = image }) (opened_of size own r.replay) after.index
    unfolding onwards
    carries_open =
        record {
          entries = listed;
          sound =
              record {
                low = open_sound.low;
                high = open_sound.high;
                within = omega (arith, resumed.inside, open_sound.within);
                most = omega (arith, resumed.inside, open_sound.most);
              };
          walks =
              resumed.same image e (omega arith) refl
              ∙ ap (onwards listed) (walk_end k image e)
              ∙ (λ j. record { entries = append-nil listed j; ending = stopped END e });
          agrees =
              subst (λ (m : List ReplayEntry). AgreesWith size own m (opened_of size own r.replay) after.index)
              (replay_reads size own (rows_lent before) (walk_at k image used 0 0) replays)
              (agrees_recovered size own l used before after r word e answers);
          digested = entries_digested listed (stand_bytes k image used all listed (walk_stands k image used open_sound));
          fine = scan_fine size own (rows_lent before) [] listed scanned_so.scans;
        }

  -- the rows and the summary of entries with the same index and summary
  agrees_same : {l m : List ReplayEntry} {s : BlockStore} {words : List ℕ} → AgreesWith size own l s words → index m ≡ index l → summary_of own m ≡ summary_of own l
      → AgreesWith size own m s words
  unfolding index_rows
  agrees_same h rows summary =
      record { committee = h.committee; authority = h.authority; rows = h.rows ∙ sym (ap (map block_row) rows); summary = h.summary ∙ sym summary }

  -- an entry more, which the walk lists behind the others
  grows : {log : LogImage} {s t : BlockStore} {words words' : List ℕ} → (h : Carries log s words) (a : Entry) → a.tag < 2 ^ 32
      → place k log.used (length log.image) (length a.payload) ≡ accepted a.start
      → AgreesWith size own (reads_of (h.entries ++ (a ∷ []))) t words' → OfBlock OfBytes a → Fine size own (reads_of h.entries) a
      → Carries (record { used = end_of a; image = image_after (accepted a.start) log.used log.image a.tag a.payload }) t words'
  unfolding end_of
  grows {log} h a small is agrees digested fine =
      let says = accepted_says k log.used (length log.image) (length a.payload) a.start is in
      record {
        entries = h.entries ++ (a ∷ []);
        sound =
            record {
              low = h.sound.low;
              high = h.sound.high;
              within = omega (arith, says.ends, grown_long k log.used log.image a small is);
              most = omega (arith, says.most);
            };
        walks = walk_grows k log.used log.image a small is h.walks;
        agrees = agrees;
        digested = blocks_one OfBytes h.entries a h.digested digested;
        fine = fine_one size own [] h.entries a h.fine fine;
      }

  carries_append : {log : LogImage} {s : BlockStore} {words : List ℕ} → Carries log s words
      → (a : Append) → a.tag < 2 ^ 32 → (a.tag ≡ 1 → ⊥) → (a.tag ≡ 3 → ⊥) → Carries (after_append k log a) s words
  unfolding after_append answer_of used_after image_after end_of
  carries_append {log} {s} {words} h a small one three = from (answer_of k log a) refl
    where
      from : (p : Placed) → answer_of k log a ≡ p → Carries (after_append k log a) s words
      from (accepted start) is =
          let b : Entry = record { start = start; tag = a.tag; payload = a.payload } in
          let l : List ReplayEntry = reads_of h.entries in
          let read : reads_of (h.entries ++ (b ∷ [])) ≡ l ++ read_of b = reads_one h.entries b in
          let same = no_block_read b one three own l in
          rw is
          (grows h b small is (agrees_same h.agrees (ap index read ∙ same.0) (ap (summary_of own) read ∙ same.1))
          (no_block_holds OfBytes b one three) (fine_other b one three size own l))
      from (append.refused n) is = rw is h

  carries_insert : {log : LogImage} {s : BlockStore} {words : List ℕ} → Carries log s words
      → (tag : ℕ) (payload : List ℕ) → (tag ≡ 1) ⊎ (tag ≡ 3) → AllBytes payload → (i : Inserted) (image' words' : List ℕ)
      → Inserts (record { exponent = k; used = log.used }) s tag payload log.image words (Ok i) image' words'
      → Carries (record { used = i.writer.used; image = image' }) i.store words'
  unfolding inserted_of writer_after store_after image_with index_with store_with indexed end_of
  carries_insert {log} {s} {words} h tag payload which all i image' words' ins =
      let w : WalWriter = record { exponent = k; used = log.used } in
      let x : Insertion = insertion w (length log.image) s words tag payload in
      let put : Put x = ok_accepted w s (length payload) x ins.answer in
      let passed : Passed w (length log.image) s words tag payload put.start put.reference put.rows =
      accepted_passed w (length log.image) s words tag payload put.is in
      let e : Entry = record { start = put.start; tag = tag; payload = payload } in
      let l : List ReplayEntry = reads_of h.entries in
      let held = insert_holds put.start payload all tag which passed.holds in
      let y : ReplayEntry = record { entry = e; item = held.item } in
      let checked = call_checked k log.used (length log.image) s words passed.call in
      let read : reads_of (h.entries ++ (e ∷ [])) ≡ l ++ (y ∷ []) =
      reads_one h.entries e ∙ ap (λ (m : List ReplayEntry). l ++ m) (read_classified e held.is) in
      let answer : Ok i ≡ inserted_of w s (length payload) (insert put.start put.reference put.rows) =
      ins.answer ∙ ap (inserted_of w s (length payload)) put.is in
      let used : i.writer.used ≡ end_of e = ap (λ (r : Result Inserted Refusal). (writer_after w r).used) answer in
      let after : i.store ≡ store_with s put.reference put.rows = ap (store_after s) answer in
      let rows : words' ≡ upserted words s.rows (loaded_row put.reference put.start) =
      ins.rows ∙ ap (λ (x : Insertion). index_with x s words) put.is in
      let bytes : image' ≡ image_after (accepted put.start) log.used log.image tag payload =
      ins.log ∙ ap (λ (x : Insertion). image_with x w log.image tag payload) put.is in
      let small : put.reference.authority < s.committee_size =
      number_below s.committee_size s.authority (rows_of s.rows words) put.reference refl passed.block in
      let checks : block_check size own (blocks l) (some put.reference) ≡ 0 =
      sym (number_checked size own (rows_of s.rows words) l put.reference h.agrees.rows)
      ∙ ap₂ (λ (n o : ℕ). block_number n o (rows_of s.rows words) put.reference) (sym h.agrees.committee) (sym h.agrees.authority)
      ∙ passed.block in
      let agreed = agrees_block size own l s words h.agrees (all_digested h) checked e held small passed.counted in
      let stepped : ◌≡◌ {A = LogImage} (record { used = end_of e; image = image_after (accepted put.start) log.used log.image tag payload })
      (record { used = i.writer.used; image = image' }) = sym (λ j. record { used = used j; image = bytes j }) in
      subst (λ (st : LogImage). Carries st i.store words') stepped
      (grows h e (tag_small tag which) passed.placed
      (subst (λ (m : List ReplayEntry). AgreesWith size own m i.store words') (sym read)
      (subst (λ (t : BlockStore). AgreesWith size own (l ++ (y ∷ [])) t words') (sym after)
      (subst (λ (t : List ℕ). AgreesWith size own (l ++ (y ∷ [])) (store_with s put.reference put.rows) t) (sym rows) agreed)))
      (held_holds OfBytes held held.digested) (fine_inserted size own l e held checks))

  carries_clean : {log : LogImage} {s : BlockStore} {words : List ℕ} → Carries log s words
      → (t : ℕ) → Carries log s (clean_index (call_check k log.used (length log.image) s words) t (indexed s words) words)
  unfolding indexed
  carries_clean {log} {s} {words} h t =
      record {
        entries = h.entries;
        sound = h.sound;
        walks = h.walks;
        agrees =
            record {
              committee = h.agrees.committee;
              authority = h.agrees.authority;
              rows =
                  cleaned_rows (call_check k log.used (length log.image) s words) t s.rows words
                  (λ passed. (call_checked k log.used (length log.image) s words passed).fits)
                  ∙ h.agrees.rows;
              summary = h.agrees.summary;
            };
        digested = h.digested;
        fine = h.fine;
      }

  carries_look : {log : LogImage} {s : BlockStore} {words : List ℕ} → Carries log s words → (n : ℕ) → Carries log (counted s n) words
  unfolding counted indexed
  carries_look h n =
      record {
        entries = h.entries;
        sound = h.sound;
        walks = h.walks;
        agrees =
            record { committee = h.agrees.committee; authority = h.agrees.authority; rows = h.agrees.rows; summary = h.agrees.summary };
        digested = h.digested;
        fine = h.fine;
      }

  carries_lend : {log : LogImage} {s : BlockStore} {words : List ℕ} → Carries log s words → (image' words' : List ℕ) → log.used ≤ length image'
      → take log.used image' ≡ take log.used log.image → indexed s words' ≡ indexed s words
      → Carries (record { used = log.used; image = image' }) s words'
  unfolding onwards
  carries_lend {log} h image' words' room same rows =
      record {
        entries = h.entries;
        sound = record { low = h.sound.low; high = h.sound.high; within = room; most = h.sound.most };
        walks =
            (walk_resumes k h.sound.low log.image log.used h.sound.within h.walks).same image' log.used (omega arith) (sym same)
            ∙ ap (onwards h.entries) (walk_end k image' log.used)
            ∙ (λ j. record { entries = append-nil h.entries j; ending = stopped END log.used });
        agrees =
            record {
              committee = h.agrees.committee;
              authority = h.agrees.authority;
              rows = ap (map unloaded_row) rows ∙ h.agrees.rows;
              summary = h.agrees.summary;
            };
        digested = h.digested;
        fine = h.fine;
      }

  pub carries : 6 ≤ k → k ≤ 28 → {log : LogImage} {s : BlockStore} {words : List ℕ} → Reachable k size own log s words → Carries log s words
  carries low high (new image words) = carries_new low high image words
  carries low high (opens image all used before after r word e l is answers) =
      carries_open image all used before after r word e l is answers
  carries low high (appends m a small one three) = carries_append (carries low high m) a small one three
  carries low high (inserts m tag payload which all i image' words' ins) =
      carries_insert (carries low high m) tag payload which all i image' words' ins
  carries low high (cleans m t) = carries_clean (carries low high m) t
  carries low high (looks m n) = carries_look (carries low high m) n
  carries low high (lends m image' words' room same rows) = carries_lend (carries low high m) image' words' room same rows

  -- ---- Recovery of the whole log

  module _ {log : LogImage} {s : BlockStore} {words : List ℕ} (h : Carries log s words) (lent : Lent) where
    pub recover_whole : recover k log.image log.used size own lent
        ≡ unless (committee_check size own) (λ n. refused n 0) (replayed size own lent (record { entries = h.entries; ending = stopped END log.used }))
    unfolding recover
    recover_whole =
        unless_passed (λ n. refused n 0) _ (log_check k log.used (length log.image)) (sound_passes k log.used (length log.image) h.sound)
        ∙ ap (λ (w : Walk). unless (committee_check size own) (λ n. refused n 0) (replayed size own lent w)) h.walks

pub reopened : Reopened
reopened k least most size own log s words made lent word e l is =
    let h : Carries k size own log s words = carries k size own least most made in
    let reads : l ≡ reads_of h.entries =
    replay_reads size own lent _ (unless_recovered (committee_check size own) _ (sym (recover_whole k size own h lent) ∙ is)).1 in
    subst (λ (m : List ReplayEntry). AgreesWith size own m s words) (sym reads) h.agrees

pub refusals : Refusals
unfolding walk
refusals k least most size own log s words made lent n p is =
    let h : Carries k size own log s words = carries k size own least most made in
    let walks : (walk k log.image log.used).entries ≡ h.entries =
    ap (λ (w : Walk). w.entries)
    (unless_passed (λ n. record { entries = []; ending = Ending.refused n 0 }) (walk_at k log.image log.used 0 0)
    (log_check k log.used (length log.image)) (sound_passes k log.used (length log.image) h.sound)
    ∙ h.walks) in
    subst (λ (es : List Entry). Cause size own lent es n p) (sym walks)
    (recover_refused size own lent h.entries h.fine END log.used (sym (recover_whole k size own h lent) ∙ is))
