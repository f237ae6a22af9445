-- An insert keeps what the next call checks: the log, the store and its index pass 1, 2 and 18 after it if they did before. Assumes nothing.
use mathlib.Core.Path.{◌≡◌, refl, sym, ◌∙◌, subst}
use mathlib.Core.List.{List, ◌++◌}
use mathlib.Core.Logic.{⊎_elim}
use Prim.Native.Nat.{ℕ, ◌+◌, ◌-◌, ◌<◌}
use native.Mathlib.Omega.{arith}
use lib.ListN.{length, length-append}
use Rattle.laws.specs.Bytes.{zeros}
use Rattle.laws.proofs.Tests.{eqb_cases}
use Rattle.laws.proofs.Written.{length_zeros, length_written}
use Rattle.entry.specs.Entry.{entry_bytes}
use Rattle.entry.proofs.EntryBytes.{length_entry_bytes}
use Rattle.types.specs.declared.BlockReference.{BlockReference}
use Rattle.wal_writer.specs.declared.WalWriter.{WalWriter}
use Rattle.wal_position.specs.Checks.{log_check}
use Rattle.wal_writer.specs.Append.{Placed, accepted, refused, place, image_after}
use Rattle.wal_position.proofs.Checks.{sound_passes}
use Rattle.wal_writer.proofs.Places.{Accepted, accepted_says}
use Rattle.std.proofs.Common.{Option, Some, None, Result}
use Rattle.refusal.specs.declared.Refusal.{Refusal}
use Rattle.rows.specs.Rows.{rows_of}
use Rattle.tables.specs.Tables.{upserted, upsert_count}
use Rattle.tables.proofs.Tables.{fits_lent}
use Rattle.rows.proofs.Ascending.{ascendingb_decides}
use Rattle.index.specs.Keys.{key_words, index_row}
use Rattle.committee.specs.Committee.{committee_check}
use Rattle.state.specs.Checks.{block_number}
use Rattle.state.proofs.BlockEntries.{number_below}
use Rattle.state.proofs.Rows.{length_index_row}
use Rattle.store.specs.declared.BlockStore.{BlockStore}
use Rattle.store.specs.Store.{indexed, store_check, call_check}
use Rattle.store.proofs.Checked.{call_checked, call_log, committee_refused, store_passed, log_passed}
use Rattle.indexing.specs.declared.Inserted.{Inserted}
use Rattle.indexing.specs.Indexing.{Insertion, refuse, insert, loaded_row, store_with, inserted_of, image_with, index_with}
use Rattle.insert.specs.Insert.{Decoded, bad, good, decoded_reference, insertion, writer_after, store_after, Inserts}
use Rattle.indexing.proofs.IndexRows.{InOrder, upserted_in_order}
use Rattle.indexing.proofs.Indexing.{block_refused, index_full, index_counted}
use Rattle.insert.proofs.Inserting.{call_refused, place_refused, undecoded, decoded}

-- ---- What an insert that was accepted has passed

pub record Passed (w : WalWriter) (size : ℕ) (s : BlockStore) (index : List ℕ) (tag : ℕ) (payload : List ℕ) (start : ℕ) (r : BlockReference) (n : ℕ) : Type 0 where
  pub call : call_check w.exponent w.used size s index ≡ 0
  pub placed : place w.exponent w.used size (length payload) ≡ accepted start
  pub holds : decoded_reference tag payload ≡ good r
  pub block : block_number s.committee_size s.authority (indexed s index) r ≡ 0
  pub counted : upsert_count index s.rows (loaded_row r start) ≡ Some n

-- an insertion is not both refused and accepted
not_both : {x : Insertion} {m start n : ℕ} {r : BlockReference} → x ≡ refuse m → x ≡ insert start r n → ⊥
not_both p q = let z : ◌≡◌ {A = ℕ} 0 1 = cc in omega arith

pub accepted_passed : (w : WalWriter) (size : ℕ) (s : BlockStore) (index : List ℕ) (tag : ℕ) (payload : List ℕ) {start : ℕ} {r : BlockReference} {n : ℕ}
    → insertion w size s index tag payload ≡ insert start r n → Passed w size s index tag payload start r n
accepted_passed w size s index tag payload {start} {r} {n} e =
    ⊎_elim
    (λ z. placing z.1 (place w.exponent w.used size (length payload)) refl)
    (λ m. absurd (not_both (call_refused w size s index tag payload m.1) e))
    (eqb_cases (call_check w.exponent w.used size s index) 0)
  where
    counting : call_check w.exponent w.used size s index ≡ 0 → (at : ℕ) → place w.exponent w.used size (length payload) ≡ accepted at
        → (b : BlockReference) → decoded_reference tag payload ≡ good b
        → block_number s.committee_size s.authority (indexed s index) b ≡ 0
        → (u : Option ℕ) → u ≡ upsert_count index s.rows (loaded_row b at) → Passed w size s index tag payload start r n
    counting passed at placed b holds block (Some m) counted =
        let same : insert at b m ≡ insert start r n =
        sym (decoded w size s index tag payload passed placed holds ∙ index_counted s index at b block refl (sym counted)) ∙ e in
        let at_is : at ≡ start = cc in
        let b_is : b ≡ r = cc in
        let m_is : m ≡ n = cc in
        subst (λ (k : ℕ). Passed w size s index tag payload start r k) m_is
        (subst (λ (b : BlockReference). Passed w size s index tag payload start b m) b_is
        (subst (λ (at : ℕ). Passed w size s index tag payload at b m) at_is
        (record { call = passed; placed = placed; holds = holds; block = block; counted = sym counted })))
    counting passed at placed b holds block None full =
        absurd (not_both (decoded w size s index tag payload passed placed holds ∙ index_full s index at b block refl (sym full)) e)

    holding : call_check w.exponent w.used size s index ≡ 0 → (at : ℕ) → place w.exponent w.used size (length payload) ≡ accepted at
        → (d : Decoded) → decoded_reference tag payload ≡ d → Passed w size s index tag payload start r n
    holding passed at placed (bad m) holds = absurd (not_both (undecoded w size s index tag payload passed placed holds) e)
    holding passed at placed (good b) holds =
        ⊎_elim
        (λ z. counting passed at placed b holds z.1 (upsert_count index s.rows (loaded_row b at)) refl)
        (λ m. absurd (not_both (decoded w size s index tag payload passed placed holds ∙ block_refused s index at b m.1) e))
        (eqb_cases (block_number s.committee_size s.authority (indexed s index) b) 0)

    placing : call_check w.exponent w.used size s index ≡ 0 → (p : Placed) → place w.exponent w.used size (length payload) ≡ p
        → Passed w size s index tag payload start r n
    placing passed (accepted at) placed = holding passed at placed (decoded_reference tag payload) refl
    placing passed (refused m) placed = absurd (not_both (place_refused w size s index tag payload passed placed) e)

-- ---- What it leaves passes the checks of a call

committee_passed : (s : BlockStore) (index : List ℕ) → store_check s index ≡ 0 → committee_check s.committee_size s.authority ≡ 0
committee_passed s index passed =
    ⊎_elim
    (λ z. z.1)
    (λ m. committee_refused s index m.1 ∙ passed)
    (eqb_cases (committee_check s.committee_size s.authority) 0)

module _ (w : WalWriter) (size : ℕ) (s : BlockStore) (index : List ℕ) (tag : ℕ) (payload : List ℕ) {start : ℕ} {r : BlockReference} {n : ℕ} (is : insertion w size s index tag payload ≡ insert start r n) where
  passed : Passed w size s index tag payload start r n
  passed = accepted_passed w size s index tag payload is

  place_says : Accepted w.exponent w.used size (length payload) start
  place_says = accepted_says w.exponent w.used size (length payload) start passed.placed

  -- 18: the rows are in order, and their authorities below the size
  pub store_kept : store_check (store_with s r n) (upserted index s.rows (loaded_row r start)) ≡ 0
  unfolding store_with loaded_row index_row key_words indexed
  store_kept =
      let checked = call_checked w.exponent w.used size s index passed.call in
      let small : r.authority < s.committee_size =
      number_below s.committee_size s.authority (indexed s index) r refl passed.block in
      let held : InOrder s.committee_size (upserted index s.rows (loaded_row r start)) n =
      upserted_in_order s.committee_size index s.rows (record { fits = checked.fits; ascends = checked.ascends; authorities = checked.authorities }) (loaded_row r start) (length_index_row r start 1) small passed.counted in
      sym
      (store_passed (store_with s r n) (upserted index s.rows (loaded_row r start))
      (committee_passed s index (log_passed w.exponent w.used size s index (call_log w.exponent w.used size s index passed.call) ∙ passed.call))
      (fits_lent n (length (upserted index s.rows (loaded_row r start))) held.fits)
      ((ascendingb_decides (rows_of n (upserted index s.rows (loaded_row r start)))).1 held.ascends)
      held.authorities)

  -- 1 and 2: the log ends within the image
  pub log_kept : log_check w.exponent (start + (length payload + 16)) size ≡ 0
  log_kept =
      let a = place_says in
      sound_passes w.exponent (start + (length payload + 16)) size
      (record { low = a.sound.low; high = a.sound.high; within = a.ends; most = a.most })

  pub call_kept : call_check w.exponent (start + (length payload + 16)) size (store_with s r n) (upserted index s.rows (loaded_row r start)) ≡ 0
  call_kept =
      sym (log_passed w.exponent (start + (length payload + 16)) size (store_with s r n) (upserted index s.rows (loaded_row r start)) log_kept)
      ∙ store_kept

  -- the image stays as long as it was
  pub image_kept : (image : List ℕ) → length image ≡ size → length (image_after (accepted start) w.used image tag payload) ≡ length image
  unfolding image_after
  image_kept image long =
      let a = place_says in
      let v : List ℕ = zeros (start - w.used) ++ entry_bytes tag payload in
      length_written image w.used v
      (omega (arith, a.from, a.ends, length-append (zeros (start - w.used)) (entry_bytes tag payload), length_zeros (start - w.used), length_entry_bytes tag payload))

-- An insert, accepted or not, leaves a writer, a store and an index that the next call takes.
pub insert_kept : {w : WalWriter} {s : BlockStore} {tag : ℕ} {payload image index : List ℕ} {o : Result Inserted Refusal} {image' index' : List ℕ}
    → Inserts w s tag payload image index o image' index' → call_check w.exponent w.used (length image) s index ≡ 0
    → call_check (writer_after w o).exponent (writer_after w o).used (length image') (store_after s o) index' ≡ 0
unfolding inserted_of image_with index_with writer_after store_after
insert_kept {w} {s} {tag} {payload} {image} {index} {o} {image'} {index'} h passed = from (insertion w (length image) s index tag payload) refl
  where
    from : (x : Insertion) → insertion w (length image) s index tag payload ≡ x
        → call_check (writer_after w o).exponent (writer_after w o).used (length image') (store_after s o) index' ≡ 0
    from (refuse m) is = rw (h.answer, h.log, h.rows, is) passed
    from (insert start b n) is =
        rw (h.answer, h.log, h.rows, is, image_kept w (length image) s index tag payload is image refl) (call_kept w (length image) s index tag payload is)
