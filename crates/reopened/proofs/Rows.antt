-- Index rows, their loaded flags aside: what an insert and a cleanup make of them. Assumes nothing.
use mathlib.Core.Path.{◌≡◌, refl, sym, ap, ap₂, ◌∙◌}
use mathlib.Core.List.{List, [], ◌∷◌, ◌++◌, map}
use mathlib.Core.Logic.{⊎_elim}
use Prim.Native.Nat.{ℕ, zero, suc, ◌+◌, ◌-◌, ◌*◌, ◌≤◌}
use native.Mathlib.Omega.{arith}
use lib.ListN.{length, take, drop, set, get_or, length-set, length-map}
use lib.Seq.{set-set, take-set-le}
use Rattle.laws.specs.Pick.{pick}
use Rattle.laws.specs.Bytes.{written, zeros}
use Rattle.laws.proofs.Tests.{leb_cases, eqb_cases}
use Rattle.wal_position.specs.Checks.{unless}
use Rattle.std.specs.Prelude.{Some, None, Result, Ok, Err}
use Rattle.rows.specs.Rows.{rows_of, flat, key, compared, place_of, Ascending}
use Rattle.tables.specs.Tables.{table_of, EightWords, upserted, upsert_count, put_row}
use Rattle.rows.proofs.Lexicographic.{order_cases}
use Rattle.rows.proofs.Rows.{length_rows_of, rows_of_put, rows_of_inserted}
use Rattle.rows.proofs.Places.{at_place, gap_place}
use Rattle.tables.proofs.Stores.{at_within, at_words, at_count, gap_within, gap_words, gap_count, full_count}
use Rattle.tables.proofs.Tables.{eights_rows_of, rows_of_flat, put_present, put_absent, put_before, put_here, put_later}
use Rattle.index.specs.Keys.{key_words, digest_words, index_row}
use Rattle.replay.specs.Rules.{Block}
use Rattle.state.specs.Tables.{block_row}
use Rattle.state.proofs.Rows.{length_index_row}
use Rattle.cleanup.specs.Cleanup.{unload, clean_index}
use Rattle.indexing.specs.Indexing.{loaded_row}
use Rattle.types.specs.declared.BlockReference.{BlockReference}
use Rattle.reopened.specs.Reopened.{unloaded_row}

-- ---- A row put into a table, whatever lies behind its rows

module _ (t : List ℕ) (count : ℕ) (fits : 8 * count ≤ length t) (ascends : Ascending (rows_of count t)) (row : List ℕ) (eight : length row ≡ 8) where
  rows_at : {i n : ℕ} → Ok i ≡ place_of (key row) (rows_of count t) → upsert_count t count row ≡ Some n
      → rows_of n (upserted t count row) ≡ put_row row (rows_of count t)
  rows_at {i} {n} is counted =
      let at = at_place (key row) (rows_of count t) is in
      let same : Some count ≡ Some n = at_count t count row is ∙ counted in
      let n_is : count ≡ n = cc in
      ap₂ (λ (m : ℕ) (w : List ℕ). rows_of m w) (sym n_is) (sym (at_words t count row is))
      ∙ rows_of_put t count i row eight (at_within t count row is ascends) fits
      ∙ ap (λ (j : ℕ). set (rows_of count t) j row) at.1
      ∙ sym (put_present row (rows_of count t) ascends at.0)

  rows_gap : {i n : ℕ} → Err i ≡ place_of (key row) (rows_of count t) → 8 * count + 8 ≤ length t → upsert_count t count row ≡ Some n
      → rows_of n (upserted t count row) ≡ put_row row (rows_of count t)
  rows_gap {i} {n} is room counted =
      let gap = gap_place (key row) (rows_of count t) is in
      let same : Some (count + 1) ≡ Some n = gap_count t count row is room ∙ counted in
      let n_is : count + 1 ≡ n = cc in
      ap₂ (λ (m : ℕ) (w : List ℕ). rows_of m w) (sym n_is) (sym (gap_words t count row is room))
      ∙ rows_of_inserted t count i row (gap_within t count row is) room eight
      ∙ ap (λ (j : ℕ). take j (rows_of count t) ++ row ∷ drop j (rows_of count t)) gap.1
      ∙ sym (put_absent row (rows_of count t) ascends gap.0)

  pub rows_upserted : {n : ℕ} → upsert_count t count row ≡ Some n → rows_of n (upserted t count row) ≡ put_row row (rows_of count t)
  rows_upserted {n} counted = from (place_of (key row) (rows_of count t)) refl
    where
      from : (p : Result ℕ ℕ) → p ≡ place_of (key row) (rows_of count t) → rows_of n (upserted t count row) ≡ put_row row (rows_of count t)
      from (Ok i) is = rows_at is counted
      from (Err i) is =
          ⊎_elim
          (λ y. rows_gap is y.1 counted)
          (λ f.
          let full : None ≡ Some n = full_count t count row is f.1 ∙ counted in
          let z : ◌≡◌ {A = ℕ} 0 1 = cc in
          absurd (omega arith))
          (leb_cases (8 * count + 8) (length t))

-- ---- Flags aside

-- a row's key does not tell whether it is loaded
pub key_unloaded : (r : List ℕ) → key (unloaded_row r) ≡ key r
unfolding key unloaded_row
key_unloaded r = take-set-le 6 r _ 0 (omega arith)

pub put_unloaded : (row : List ℕ) (rows : List (List ℕ)) → map unloaded_row (put_row row rows) ≡ put_row (unloaded_row row) (map unloaded_row rows)
unfolding put_row
put_unloaded row [] = refl
put_unloaded row (x ∷ rows) =
    let same : compared (key (unloaded_row row)) (key (unloaded_row x)) ≡ compared (key row) (key x) =
    ap₂ (λ (a b : List ℕ). compared a b) (key_unloaded row) (key_unloaded x) in
    ⊎_elim
    (λ l.
    ap (map unloaded_row) (put_before row x rows l)
    ∙ sym (put_before (unloaded_row row) (unloaded_row x) (map unloaded_row rows) (same ∙ l)))
    (⊎_elim
    (λ e.
    ap (map unloaded_row) (put_here row x rows e)
    ∙ sym (put_here (unloaded_row row) (unloaded_row x) (map unloaded_row rows) (same ∙ e)))
    (λ g.
    ap (map unloaded_row) (put_later row x rows g)
    ∙ ap (λ (l : List (List ℕ)). unloaded_row x ∷ l) (put_unloaded row rows)
    ∙ sym (put_later (unloaded_row row) (unloaded_row x) (map unloaded_row rows) (same ∙ g))))
    (order_cases (compared (key row) (key x)))

pub loaded_unloaded : (r : BlockReference) (start : ℕ) → unloaded_row (loaded_row r start) ≡ block_row (record { reference = r; position = start })
unfolding unloaded_row loaded_row block_row index_row key_words digest_words
loaded_unloaded r start = refl

block_unloaded : (b : Block) → unloaded_row (block_row b) ≡ block_row b
unfolding unloaded_row block_row index_row key_words digest_words
block_unloaded b = refl

pub blocks_unloaded : (bs : List Block) → map unloaded_row (map block_row bs) ≡ map block_row bs
blocks_unloaded [] = refl
blocks_unloaded (b ∷ bs) = ap₂ (λ (r : List ℕ) (l : List (List ℕ)). r ∷ l) (block_unloaded b) (blocks_unloaded bs)

-- ---- An answer table

pub block_eights : (bs : List Block) → EightWords (map block_row bs)
unfolding block_row
block_eights [] = tt
block_eights (b ∷ bs) = (length_index_row b.reference b.position 0, block_eights bs)

-- the rows that recovery's table begins with
pub table_blocks : (n : ℕ) (bs : List Block) → rows_of (length bs) (table_of n (map block_row bs)) ≡ map block_row bs
unfolding table_of
table_blocks n bs =
    ap (λ (m : ℕ). rows_of m (table_of n (map block_row bs))) (sym (length-map bs block_row))
    ∙ rows_of_flat (map block_row bs) (zeros (n - 8 * length (map block_row bs))) (block_eights bs)

-- ---- Cleanup

unload_unloaded : (t : ℕ) (r : List ℕ) → unloaded_row (unload t r) ≡ unloaded_row r
unfolding unloaded_row unload pick
unload_unloaded t r = ⊎_elim (λ y. rw y.0 (set-set r 7 0 0)) (λ n. rw n.0) (leb_cases (get_or r 0 0) t)

pub unloads_unloaded : (t : ℕ) (rows : List (List ℕ)) → map unloaded_row (map (unload t) rows) ≡ map unloaded_row rows
unloads_unloaded t [] = refl
unloads_unloaded t (r ∷ rows) =
    ap₂ (λ (r : List ℕ) (l : List (List ℕ)). r ∷ l) (unload_unloaded t r) (unloads_unloaded t rows)

set_eights : (t : ℕ) (rows : List (List ℕ)) → EightWords rows → EightWords (map (unload t) rows)
unfolding unload pick
set_eights t [] h = tt
set_eights t (r ∷ rows) h =
    (⊎_elim (λ y. rw y.0 (length-set r 7 0 ∙ h.0)) (λ n. rw n.0 h.0) (leb_cases (get_or r 0 0) t), set_eights t rows h.1)

-- rows of a table whose flags were cleared
rows_written : (t : ℕ) (words : List ℕ) (count : ℕ) → 8 * count ≤ length words
    → rows_of count (written words 0 (flat (map (unload t) (rows_of count words)))) ≡ map (unload t) (rows_of count words)
unfolding written
rows_written t words count fits =
    let rows : List (List ℕ) = map (unload t) (rows_of count words) in
    let long : length rows ≡ count = length-map (rows_of count words) (unload t) ∙ length_rows_of count words in
    ap (λ (m : ℕ). rows_of m (flat rows ++ drop (0 + length (flat rows)) words)) (sym long)
    ∙ rows_of_flat rows (drop (0 + length (flat rows)) words) (set_eights t (rows_of count words) (eights_rows_of count words fits))

pub cleaned_rows : (n t : ℕ) (count : ℕ) (words : List ℕ) → (n ≡ 0 → 8 * count ≤ length words)
    → map unloaded_row (rows_of count (clean_index n t (rows_of count words) words)) ≡ map unloaded_row (rows_of count words)
unfolding clean_index unless pick
cleaned_rows (suc n) t count words fits = refl
cleaned_rows zero t count words fits =
    ⊎_elim
    (λ z. rw z.0)
    (λ m. rw m.0 (ap (map unloaded_row) (rows_written t words count (fits refl)) ∙ unloads_unloaded t (rows_of count words)))
    (eqb_cases t 0)
