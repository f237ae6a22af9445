-- What each call keeps: the store's rows and summary are those of the log's entries. Assumes nothing.
use mathlib.Core.Path.{◌≡◌, refl, sym, ap, ap₂, ◌∙◌, subst}
use mathlib.Core.List.{List, [], ◌∷◌, ◌++◌, map, append-nil}
use mathlib.Core.Logic.{◌⊎◌, ⊎_elim}
use mathlib.Core.Option.{none, some}
use Prim.Native.Nat.{ℕ, ◌<◌}
use native.Mathlib.Omega.{arith}
use lib.ListN.{length}
use borrow.Author.Tests.{ne_eqb}
use Rattle.laws.specs.Pick.{pick}
use Rattle.laws.specs.Bytes.{AllBytes}
use Rattle.laws.specs.Parse.{Res, bad, got, answer}
use Rattle.laws.proofs.Tests.{eqb_cases}
use Rattle.types.specs.declared.BlockReference.{BlockReference}
use Rattle.types.specs.Records.{BlockValue, block}
use Rattle.commits.specs.Records.{OwnBlockValue, CommitsValue, own_block, commit}
use Rattle.wal_reader.specs.Entries.{Entry}
use Rattle.wal.specs.Walk.{Stop}
use Rattle.std.specs.Prelude.{Some}
use Rattle.rows.specs.Rows.{rows_of}
use Rattle.tables.specs.Tables.{upserted, upsert_count, put_row}
use Rattle.index.specs.Keys.{Digested}
use Rattle.index.specs.Summary.{summary_with}
use Rattle.index.specs.declared.StoreSummary.{StoreSummary}
use Rattle.replay.specs.Items.{Item, is_block, is_payload, is_own_block, is_state, is_commit, Classified, refuse, item, classify, ReplayEntry, block_in}
use Rattle.replay.specs.Rules.{Block, blocks_in, index}
use Rattle.replay.specs.Recovery.{recovered}
use Rattle.replay.proofs.Applied.{references, index_same, index_block}
use Rattle.state.specs.declared.Replay.{Replay}
use Rattle.state.specs.Tables.{block_row, summary_of, blocks_of, replay_of}
use Rattle.state.specs.Holding.{AllDigested}
use Rattle.state.proofs.Digests.{block_digested, own_digested}
use Rattle.state.proofs.Kept.{summary_kept}
use Rattle.state.proofs.Rows.{length_index_row, put_block_row}
use Rattle.state.proofs.Summaries.{summary_joined}
use Rattle.recovered.specs.declared.Recovered.{Recovered}
use Rattle.replay_log.specs.Answers.{recovered_of, answer_table, Tables, Answers, index_rows}
use Rattle.store.specs.declared.BlockStore.{BlockStore}
use Rattle.store.specs.Store.{indexed, opened_of}
use Rattle.store.proofs.Checked.{Checked}
use Rattle.insert.specs.Insert as insert
use Rattle.insert.specs.Insert.{Decoded, good}
use Rattle.indexing.specs.Indexing.{loaded_row, store_with}
use Rattle.reopened.specs.Reopened.{unloaded_row, AgreesWith}
use Rattle.reopened.proofs.Classifying.{read_of, read_refused, read_classified}
use Rattle.reopened.proofs.Rows.{rows_upserted, put_unloaded, loaded_unloaded, blocks_unloaded, table_blocks}

-- ---- An entry that holds no block

module _ (a : Entry) (one : a.tag ≡ 1 → ⊥) (three : a.tag ≡ 3 → ⊥) where
  commit_no_block : (x : Res CommitsValue) {i : Item} → answer (refuse 12) (λ (c : CommitsValue) e. item (is_commit c)) x ≡ item i → block_in i ≡ none
  unfolding answer block_in
  commit_no_block bad h = let z : ◌≡◌ {A = ℕ} 0 1 = cc in absurd (omega arith)
  commit_no_block (got c e) {i} h = let is : is_commit c ≡ i = cc in ap block_in (sym is)

  pub item_no_block : {i : Item} → classify a ≡ item i → block_in i ≡ none
  unfolding classify pick block_in
  item_no_block {i} h =
      ⊎_elim
      (λ two.
      let is : item is_payload ≡ item i = rw (ne_eqb a.tag 1 one, two.0) at h in
      let same : is_payload ≡ i = cc in
      ap block_in (sym same))
      (λ not_two.
      ⊎_elim
      (λ four.
      let is : item is_state ≡ item i = rw (ne_eqb a.tag 1 one, not_two.0, ne_eqb a.tag 3 three, four.0) at h in
      let same : is_state ≡ i = cc in
      ap block_in (sym same))
      (λ not_four.
      ⊎_elim
      (λ five.
      commit_no_block (commit a.payload 0)
      (rw (ne_eqb a.tag 1 one, not_two.0, ne_eqb a.tag 3 three, not_four.0, five.0) at h))
      (λ not_five.
      let is : refuse 8 ≡ item i =
      rw (ne_eqb a.tag 1 one, not_two.0, ne_eqb a.tag 3 three, not_four.0, not_five.0) at h in
      let z : ◌≡◌ {A = ℕ} 0 1 = cc in
      absurd (omega arith))
      (eqb_cases a.tag 5))
      (eqb_cases a.tag 4))
      (eqb_cases a.tag 2)

  held_none : {i : Item} → classify a ≡ item i → blocks_in (record { entry = a; item = i }) ≡ []
  unfolding blocks_in
  held_none h = rw (item_no_block h, blocks_in)

  -- index and summary stay as they were
  pub no_block_read : (own : ℕ) (l : List ReplayEntry) → (index (l ++ read_of a) ≡ index l) × (summary_of own (l ++ read_of a) ≡ summary_of own l)
  no_block_read own l = from (classify a) refl
    where
      from : (j : Classified) → classify a ≡ j → (index (l ++ read_of a) ≡ index l) × (summary_of own (l ++ read_of a) ≡ summary_of own l)
      from (refuse n) e =
          let same : l ++ read_of a ≡ l = ap (λ (m : List ReplayEntry). l ++ m) (read_refused a e) ∙ append-nil l in
          (ap index same, ap (summary_of own) same)
      from (item i) e =
          let x : ReplayEntry = record { entry = a; item = i } in
          let same : l ++ read_of a ≡ l ++ (x ∷ []) = ap (λ (m : List ReplayEntry). l ++ m) (read_classified a e) in
          (ap index same ∙ index_same l x (held_none e), ap (summary_of own) same ∙ summary_kept l x (held_none e) own)

-- ---- An entry that holds a block

-- a block that insert decodes is one that recovery reads
pub record HoldsBlock (a : Entry) (r : BlockReference) : Type 0 where
  pub item : Item
  pub is : classify a ≡ Classified.item item
  pub block : blocks_in (record { entry = a; item = item }) ≡ record { reference = r; position = a.start } ∷ []
  pub holds : block_in item ≡ some r
  pub digested : Digested r

-- of what a parser found, the item that recovery makes of it
made_holds : {A : Type 0} (a : Entry) (x : Res A) (n : ℕ) (make : A → Item) (refers : A → BlockReference) → ((v : A) → block_in (make v) ≡ some (refers v))
    → ((v : A) (e : ℕ) → x ≡ got v e → Digested (refers v)) → classify a ≡ answer (refuse n) (λ v e. item (make v)) x
    → {r : BlockReference} → answer (Decoded.bad n) (λ v e. good (refers v)) x ≡ good r → HoldsBlock a r
unfolding answer blocks_in
made_holds a bad n make refers holds digested classified h = let z : ◌≡◌ {A = ℕ} 0 1 = cc in absurd (omega arith)
made_holds a (got v e) n make refers holds digested classified {r} h =
    let same : refers v ≡ r = cc in
    record {
      item = make v;
      is = classified;
      block = rw (holds v, blocks_in) (ap (λ (r : BlockReference). record { reference = r; position = a.start } ∷ []) same);
      holds = holds v ∙ ap (λ (r : BlockReference). some r) same;
      digested = subst Digested same (digested v e refl);
    }

module _ (start : ℕ) (payload : List ℕ) (all : AllBytes payload) {r : BlockReference} where
  holds_block : insert.decoded_reference 1 payload ≡ good r → HoldsBlock (record { start = start; tag = 1; payload = payload }) r
  unfolding insert.decoded_reference classify pick block_in
  holds_block =
      made_holds (record { start = start; tag = 1; payload = payload }) (block payload 0) 9 (λ (b : BlockValue). is_block b.reference) (λ b. b.reference)
      (λ b. refl) (λ b e is. block_digested payload all 0 is) refl

  holds_own : insert.decoded_reference 3 payload ≡ good r → HoldsBlock (record { start = start; tag = 3; payload = payload }) r
  unfolding insert.decoded_reference classify pick block_in
  holds_own =
      made_holds (record { start = start; tag = 3; payload = payload }) (own_block payload 0) 10
      (λ (o : OwnBlockValue). is_own_block o.next_entry o.block.reference) (λ o. o.block.reference) (λ o. refl)
      (λ o e is. own_digested payload all 0 is) refl

  pub insert_holds : (tag : ℕ) → (tag ≡ 1) ⊎ (tag ≡ 3) → insert.decoded_reference tag payload ≡ good r
      → HoldsBlock (record { start = start; tag = tag; payload = payload }) r
  insert_holds tag which h =
      ⊎_elim
      (λ (one : tag ≡ 1).
      subst (λ (t : ℕ). HoldsBlock (record { start = start; tag = t; payload = payload }) r) (sym one)
      (holds_block (subst (λ (t : ℕ). insert.decoded_reference t payload ≡ good r) one h)))
      (λ (three : tag ≡ 3).
      subst (λ (t : ℕ). HoldsBlock (record { start = start; tag = t; payload = payload }) r) (sym three)
      (holds_own (subst (λ (t : ℕ). insert.decoded_reference t payload ≡ good r) three h)))
      which

-- the row of a block joins the store's as it joins the index of the log
module _ (size own : ℕ) (l : List ReplayEntry) (s : BlockStore) (words : List ℕ) (h : AgreesWith size own l s words) (digested : AllDigested (references (index l))) (ok : Checked s words) (a : Entry) {r : BlockReference} (holds : HoldsBlock a r) (small : r.authority < s.committee_size) {n : ℕ} (counted : upsert_count words s.rows (loaded_row r a.start) ≡ Some n) where
  pub agrees_block : AgreesWith size own (l ++ (record { entry = a; item = holds.item } ∷ [])) (store_with s r n) (upserted words s.rows (loaded_row r a.start))
  unfolding store_with indexed index_rows loaded_row
  agrees_block =
      let x : ReplayEntry = record { entry = a; item = holds.item } in
      let b : Block = record { reference = r; position = a.start } in
      record {
        committee = h.committee;
        authority = h.authority;
        rows =
            ap (map unloaded_row) (rows_upserted words s.rows ok.fits ok.ascends (loaded_row r a.start) (length_index_row r a.start 1) counted)
            ∙ put_unloaded (loaded_row r a.start) (rows_of s.rows words)
            ∙ ap₂ (λ (row : List ℕ) (rows : List (List ℕ)). put_row row rows) (loaded_unloaded r a.start) h.rows
            ∙ put_block_row b (index l) holds.digested digested
            ∙ ap (map block_row) (sym (index_block l x b holds.block));
        summary =
            ap₂ (λ (o : ℕ) (m : StoreSummary). summary_with o r m) h.authority h.summary
            ∙ sym (summary_joined own l x b holds.block (omega (arith, ok.most)));
      }

-- ---- The store that recovery leaves

module _ (size own : ℕ) (l : List ReplayEntry) where
  -- of the entries l, in a table that begins with their index
  pub agrees_opened : (words : List ℕ) → rows_of (length (index l)) words ≡ map block_row (index l)
      → AgreesWith size own l (opened_of size own (replay_of own l)) words
  unfolding opened_of replay_of blocks_of indexed index_rows
  agrees_opened words h =
      record { committee = refl; authority = refl; rows = ap (map unloaded_row) h ∙ blocks_unloaded (index l); summary = refl }

  pub agrees_recovered : (used : ℕ) (before after : Tables) (r : Recovered) (word : Stop) (e : ℕ)
      → Answers used own (recovered word e l) before r after → AgreesWith size own l (opened_of size own r.replay) after.index
  unfolding recovered_of answer_table index_rows
  agrees_recovered used before after r word e answers =
      let replay : r.replay ≡ replay_of own l = ap (λ (r : Recovered). r.replay) answers.answer in
      let rows : rows_of (length (index l)) after.index ≡ map block_row (index l) =
      ap (λ (t : Tables). rows_of (length (index l)) t.index) answers.words ∙ table_blocks (length before.index) (index l) in
      subst (λ (t : Replay). AgreesWith size own l (opened_of size own t) after.index) (sym replay) (agrees_opened after.index rows)
