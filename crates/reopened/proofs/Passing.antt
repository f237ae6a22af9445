-- A store whose rows are those of a log passes the checks of a call. Assumes nothing.
use mathlib.Core.Path.{◌≡◌, refl, sym, ap, ap₂, ◌∙◌, subst}
use mathlib.Core.Bool.{true}
use mathlib.Core.List.{List, [], ◌∷◌, map}
use Prim.Native.Nat.{ℕ, zero, suc, ◌*◌, ◌≤◌, ◌<◌}
use native.Mathlib.Omega.{arith}
use lib.ListN.{length, drop, length-take, length-drop, length-set}
use lib.Seq.{get_or-set_other}
use borrow.Author.Tests.{lt-ltb}
use Rattle.laws.specs.Pick.{pick}
use Rattle.wal_position.proofs.Checks.{Sound, sound_passes}
use Rattle.rows.specs.Rows.{rows_of, key, compared, Leads, Ascending}
use Rattle.tables.specs.Tables.{EightWords}
use Rattle.rows.proofs.Ascending.{ascendingb_decides}
use Rattle.tables.proofs.Tables.{fits_lent}
use Rattle.index.specs.Keys.{key_words, index_row}
use Rattle.replay.specs.Items.{ReplayEntry}
use Rattle.replay.specs.Rules.{Block, blocks, index}
use Rattle.committee.specs.Committee.{committee_check}
use Rattle.replay.proofs.Sets.{AscendingRefs, set_of_ascending}
use Rattle.replay.proofs.Applied.{references, index_references}
use Rattle.state.specs.Tables.{block_row}
use Rattle.state.specs.Holding.{AllDigested}
use Rattle.state.proofs.Rows.{key_block_row, rows_ascend}
use Rattle.replay_log.specs.Answers.{index_rows}
use Rattle.store.specs.declared.BlockStore.{BlockStore}
use Rattle.store.specs.Store.{indexed, authorities_below, store_check, call_check}
use Rattle.store.proofs.Checked.{store_passed, log_passed}
use Rattle.reopened.specs.Reopened.{unloaded_row, AgreesWith}
use Rattle.reopened.proofs.Rows.{key_unloaded, block_eights}
use Rattle.reopened.proofs.References.{Every}

-- ---- Flags aside, rows are as long, as ordered and of the same authorities

unloaded_eights : (rows : List (List ℕ)) → EightWords (map unloaded_row rows) → EightWords rows
unfolding unloaded_row
unloaded_eights [] h = tt
unloaded_eights (r ∷ rows) h = (sym (length-set r 7 0) ∙ h.0, unloaded_eights rows h.1)

unloaded_leads : (k : List ℕ) (rows : List (List ℕ)) → Leads k (map unloaded_row rows) → Leads k rows
unloaded_leads k [] h = tt
unloaded_leads k (r ∷ rows) h = ap (compared k) (sym (key_unloaded r)) ∙ h

unloaded_ascends : (rows : List (List ℕ)) → Ascending (map unloaded_row rows) → Ascending rows
unloaded_ascends [] h = tt
unloaded_ascends (r ∷ rows) h =
    (unloaded_leads (key r) rows (subst (λ (k : List ℕ). Leads k (map unloaded_row rows)) (key_unloaded r) h.0), unloaded_ascends rows h.1)

unloaded_authorities : (size : ℕ) (rows : List (List ℕ)) → authorities_below size (map unloaded_row rows) ≡ authorities_below size rows
unfolding authorities_below unloaded_row
unloaded_authorities size [] = refl
unloaded_authorities size (r ∷ rows) = rw (get_or-set_other r 7 1 0 0 (λ e. omega arith), unloaded_authorities size rows)

-- rows of eight words lie within the table
rows_fit : (n : ℕ) (words : List ℕ) → EightWords (rows_of n words) → 8 * n ≤ length words
unfolding rows_of
rows_fit zero words h = omega arith
rows_fit (suc n) words h =
    omega (arith, h.0, length-take 8 words, rows_fit n (drop 8 words) h.1, length-drop 8 words)

-- ---- The rows of blocks

blocks_below : (size : ℕ) (bs : List Block) → Every (λ (b : Block). b.reference.authority < size) bs
    → authorities_below size (map block_row bs) ≡ true
unfolding authorities_below pick block_row index_row key_words
blocks_below size [] h = refl
blocks_below size (b ∷ bs) h = rw (lt-ltb b.reference.authority size h.0) (blocks_below size bs h.1)

blocks_ascend : (l : List ReplayEntry) → AllDigested (references (index l)) → Ascending (map block_row (index l))
blocks_ascend l digested =
    rows_ascend (λ (b : Block). b.reference) block_row key_block_row (index l)
    (subst AscendingRefs (sym (index_references l)) (set_of_ascending (references (blocks l)))) digested

-- ---- The checks

module _ (size own : ℕ) (committee : committee_check size own ≡ 0) (l : List ReplayEntry) (s : BlockStore) (words : List ℕ) (h : AgreesWith size own l s words) (digested : AllDigested (references (index l))) (below : Every (λ (b : Block). b.reference.authority < size) (index l)) where
  agree_store : store_check s words ≡ 0
  unfolding indexed index_rows
  agree_store =
      let rows : map unloaded_row (rows_of s.rows words) ≡ map block_row (index l) = h.rows in
      let fits : 8 * s.rows ≤ length words =
      rows_fit s.rows words (unloaded_eights (rows_of s.rows words) (subst EightWords (sym rows) (block_eights (index l)))) in
      let ascends : Ascending (rows_of s.rows words) =
      unloaded_ascends (rows_of s.rows words) (subst Ascending (sym rows) (blocks_ascend l digested)) in
      let authorities : authorities_below s.committee_size (rows_of s.rows words) ≡ true =
      ap (λ (n : ℕ). authorities_below n (rows_of s.rows words)) h.committee
      ∙ sym (unloaded_authorities size (rows_of s.rows words))
      ∙ ap (authorities_below size) rows
      ∙ blocks_below size (index l) below in
      sym
      (store_passed s words
      (ap₂ (λ (n o : ℕ). committee_check n o) h.committee h.authority ∙ committee)
      (fits_lent s.rows (length words) fits)
      ((ascendingb_decides (rows_of s.rows words)).1 ascends)
      authorities)

  pub agree_passes : {k used n : ℕ} → Sound k used n → call_check k used n s words ≡ 0
  agree_passes {k} {used} {n} sound = sym (log_passed k used n s words (sound_passes k used n sound)) ∙ agree_store
