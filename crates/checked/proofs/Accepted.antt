-- The theorem: recovery of a log that checked calls made is refused for its tables alone. Assumes nothing.
use mathlib.Core.Path.{◌≡◌, refl, sym, ap, ◌∙◌, subst, ap₂}
use mathlib.Core.List.{List, append-nil}
use mathlib.Core.Logic.{◌⊎◌, ⊎_elim}
use mathlib.Core.Option.{Option, some}
use Prim.Native.Nat.{ℕ, ◌^◌, ◌≤◌, ◌<◌}
use native.Mathlib.Omega.{arith}
use lib.ListN.{length, take}
use Rattle.std.proofs.Common.{Result, Ok}
use Rattle.refusal.specs.declared.Refusal.{Refusal}
use Rattle.laws.specs.Bytes.{AllBytes}
use Rattle.types.specs.declared.BlockReference.{BlockReference}
use Rattle.wal_reader.specs.Entries.{Entry, end_of}
use Rattle.wal_writer.specs.declared.WalWriter.{WalWriter}
use Rattle.wal_writer.specs.Append as append
use Rattle.wal_writer.specs.Append.{Placed, image_after}
use Rattle.wal.specs.Walk.{END, stopped}
use Rattle.wal.proofs.Prefixes.{onwards, walk_end, walk_resumes}
use Rattle.rows.specs.Rows.{rows_of}
use Rattle.committee.specs.Committee.{committee_check}
use Rattle.replay.specs.Rules.{blocks, pending}
use Rattle.replay.specs.Recovery.{Lent, scan, block_check, bad_payload, recovered, recover}
use Rattle.state.specs.Checks.{block_number}
use Rattle.state.proofs.Checks.{no_block_lem}
use Rattle.replay_log.specs.Answers.{rows_lent}
use Rattle.store.specs.declared.BlockStore.{BlockStore}
use Rattle.store.specs.Store.{indexed}
use Rattle.indexing.specs.declared.Inserted.{Inserted}
use Rattle.indexing.specs.Indexing.{Insertion, inserted_of, image_with}
use Rattle.insert.specs.Insert.{insertion, writer_after, Inserts}
use Rattle.insert.proofs.Kept.{accepted_passed}
use Rattle.insert.proofs.Numbers.{ok_accepted}
use Rattle.cut.specs.PlainLog.{Append}
use Rattle.cut.specs.Cut.{LogImage, used_after, answer_of, after_append}
use Rattle.reopened.specs.Reopened.{Reachable, new, opens, appends, inserts, cleans, looks, lends}
use Rattle.reopened.proofs.Classifying.{reads_of}
use Rattle.reopened.proofs.Agreeing.{item_no_block, insert_holds}
use Rattle.reopened.proofs.Refusing.{number_checked}
use Rattle.reopened.proofs.Reopened.{Carries, carries}
use Rattle.durable.specs.Durable.{AtLeast}
use Rattle.durable.proofs.Recoveries.{not_refused, recovers_to_end}
use Rattle.durable.proofs.Tables.{served_larger, same_or_full}
use Rattle.durable.proofs.Durability.{durability}
use Rattle.checked.specs.Checked.{IsChecked, AllChecked, Accepted}
use Rattle.checked.proofs.Growing.{checked_decodes, block_decodes, ReadsWhole, whole_so, scans_so, grows}

-- ---- One call each

module _ (k size own : ℕ) (committee : committee_check size own ≡ 0) where
  whole_new : 6 ≤ k → k ≤ 28 → (image : List ℕ) → ReadsWhole k size own (record { used = 0; image = image })
  unfolding scan pending bad_payload
  whole_new low high image =
      whole_so k size own (record { low = low; high = high; within = omega arith; most = omega arith }) committee (walk_end k image 0)
      (record { pending = 0; unprocessed = 0; committed = 0; index = 0 }) refl refl

  module _ {log : LogImage} {s : BlockStore} {words : List ℕ} (h : Carries k size own log s words) (r : ReadsWhole k size own log) where
    -- a refused append changes nothing
    whole_append : (a : Append) → IsChecked a → a.tag < 2 ^ 32 → (a.tag ≡ 1 → ⊥) → (a.tag ≡ 3 → ⊥)
        → ReadsWhole k size own (after_append k log a)
    unfolding after_append answer_of used_after image_after end_of
    whole_append a checked small one three = from (answer_of k log a) refl
      where
        from : (p : Placed) → answer_of k log a ≡ p → ReadsWhole k size own (after_append k log a)
        from (append.accepted start) is =
            let b : Entry = record { start = start; tag = a.tag; payload = a.payload } in
            let holds = checked_decodes start a checked in
            rw is
            (grows k size own h r b holds committee small is
            (no_block_lem size own (reads_of h.entries) holds.item (item_no_block b one three holds.is)))
        from (append.refused n) is = rw is r

    -- what an accepted insert has checked, recovery checks
    whole_insert : (tag : ℕ) (payload : List ℕ) → (tag ≡ 1) ⊎ (tag ≡ 3) → AllBytes payload
        → (i : Inserted) (image' words' : List ℕ)
        → Inserts (record { exponent = k; used = log.used }) s tag payload log.image words (Ok i) image' words'
        → ReadsWhole k size own (record { used = i.writer.used; image = image' })
    unfolding inserted_of writer_after image_with indexed end_of
    whole_insert tag payload which all i image' words' ins =
        let w : WalWriter = record { exponent = k; used = log.used } in
        let n : ℕ = length log.image in
        let put = ok_accepted w s (length payload) (insertion w n s words tag payload) ins.answer in
        let passed = accepted_passed w n s words tag payload put.is in
        let e : Entry = record { start = put.start; tag = tag; payload = payload } in
        let held = insert_holds put.start payload all tag which passed.holds in
        let used : i.writer.used ≡ end_of e =
        ap (λ (r : Result Inserted Refusal). (writer_after w r).used) (ins.answer ∙ ap (inserted_of w s (length payload)) put.is) in
        let bytes : image' ≡ image_after (append.accepted put.start) log.used log.image tag payload =
        ins.log ∙ ap (λ (x : Insertion). image_with x w log.image tag payload) put.is in
        let free : block_check size own (blocks (reads_of h.entries)) (some put.reference) ≡ 0 =
        sym (number_checked size own (rows_of s.rows words) (reads_of h.entries) put.reference h.agrees.rows)
        ∙ ap₂ (λ (n o : ℕ). block_number n o (rows_of s.rows words) put.reference)
        (sym h.agrees.committee) (sym h.agrees.authority)
        ∙ passed.block in
        subst (ReadsWhole k size own) (sym (λ j. record { used = used j; image = bytes j }))
        (grows k size own h r e (record { item = held.item; is = held.is; decodes = block_decodes e held.item held.holds })
        committee (⊎_elim (λ (one : tag ≡ 1). omega arith) (λ (three : tag ≡ 3). omega arith) which) passed.placed
        (ap (λ (o : Option BlockReference). block_check size own (blocks (reads_of h.entries)) o) held.holds ∙ free))

    -- the same bytes in another image
    whole_lend : (image' : List ℕ) → log.used ≤ length image' → take log.used image' ≡ take log.used log.image
        → ReadsWhole k size own (record { used = log.used; image = image' })
    unfolding onwards
    whole_lend image' room same =
        whole_so k size own (record { low = h.sound.low; high = h.sound.high; within = room; most = h.sound.most }) committee
        ((walk_resumes k h.sound.low log.image log.used h.sound.within h.walks).same
        image' log.used (omega arith) (sym same)
        ∙ ap (onwards h.entries) (walk_end k image' log.used)
        ∙ (λ j. record { entries = append-nil h.entries j; ending = stopped END log.used }))
        r.lent (scans_so k size own h r.lent r.is)
        (not_refused k log.image log.used size own r.lent r.is).decodes

  module _ (low : 6 ≤ k) (high : k ≤ 28) where
    reads_whole : {log : LogImage} {s : BlockStore} {words : List ℕ} (made : Reachable k size own log s words) → AllChecked made
        → ReadsWhole k size own log
    reads_whole (new image words) checked = whole_new low high image
    reads_whole (opens image all used before after r word e l is answers) checked =
        record {
          lent = rows_lent before;
          entries = l;
          is = recovers_to_end k image used size own (rows_lent before) (not_refused k image used size own (rows_lent before) is);
        }
    reads_whole (appends m a small one three) checked =
        whole_append (carries k size own low high m) (reads_whole m checked.1) a checked.0 small one three
    reads_whole (inserts m tag payload which all i image' words' ins) checked =
        whole_insert (carries k size own low high m) (reads_whole m checked) tag payload which all i image' words' ins
    reads_whole (cleans m t) checked = reads_whole m checked
    reads_whole (looks m n) checked = reads_whole m checked
    reads_whole (lends m image' words' room same rows) checked =
        whole_lend (carries k size own low high m) (reads_whole m checked) image' room same

pub accepted : Accepted
accepted k low high size own committee log s words made checked =
    let r = reads_whole k size own committee low high made checked in
    let serves : (lent : Lent) → AtLeast r.lent lent
    → recover k log.image log.used size own lent ≡ recovered END log.used r.entries =
    λ lent larger. served_larger k log.image log.used size own r.lent r.is lent larger in
    record {
      entries = r.entries;
      answers = λ lent. same_or_full k log.image log.used size own r.lent lent r.is;
      enough = r.lent;
      serves = serves;
      durable = λ lent larger. durability k log.used log.image size own lent END r.entries (serves lent larger);
    }
