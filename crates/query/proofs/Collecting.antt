-- The loop that reads the blocks of the chosen rows: what was found so far, and what is still to come. Assumes nothing.
use mathlib.Core.Path.{◌≡◌, refl, sym, ap, ap₂, ◌∙◌, subst}
use mathlib.Core.Bool.{Bool, true, false}
use mathlib.Core.List.{List, [], ◌∷◌, ◌++◌, append_assoc, append-nil}
use mathlib.Core.Logic.{⊎_elim}
use Prim.Native.Nat.{ℕ, zero, suc, ◌+◌, ◌-◌, ◌*◌, ◌/◌, ◌≤◌, ◌<◌}
use native.Mathlib.Numerals.{add-one}
use native.Mathlib.Omega.{arith}
use lib.Dec.{eqb}
use Rattle.std.specs.Prelude.{Option, Result}
use Rattle.std.proofs.Common.{Ok, Err}
use lib.ListN.{length, take, drop, get_or, length-append, drop_of_length-le}
use lib.Seq.{drop-cons}
use borrow.Author.Tests.{lt-ltb, le-ltb}
use Rattle.refusal.specs.declared.Refusal.{Refusal}
use Rattle.wal_position.specs.declared.Log.{Log}
use Rattle.wal_position.specs.Logs.{of_log}
use Rattle.laws.specs.Pick.{pick}
use Rattle.laws.specs.Bytes.{zeros, written}
use Rattle.laws.proofs.Tests.{leb_cases}
use Rattle.tables.specs.Tables.{Table}
use Rattle.tables.proofs.Tables.{table_empty, push_table}
use Rattle.types.specs.declared.BlockReference.{BlockReference}
use Rattle.index.specs.Keys.{key_words, digest_words}
use Rattle.store.specs.Store.{loaded}
use Rattle.query.specs.declared.Collected.{Collected}
use Rattle.block_reader.specs.declared.ReadBlock.{ReadBlock}
use Rattle.block_reader.specs.Reading.{BlockRead, block_at, read_of}
use Rattle.query.specs.Query.{answer_row, Blocks, failed, all, also, followed_by, read_rows, unloaded}
use Rattle.filters.specs.Filters.{author_of}
use Rattle.filters.specs.Filters as filters
use Rattle.filters.specs.Segments.{is_author, chosen}
use Rattle.query.specs.Collecting.{collected_of, HoldsRows, answer_put}
use Rattle.filters.proofs.Keeping.{keep_yes, keep_no}
use Rattle.block_reader.proofs.Reading.{told_refused, told_got}

-- ---- The rows that are chosen, by the first one

abbrev selects : Option ℕ → List ℕ → Bool
selects author r = is_author author (author_of r)

module _ (author : Option ℕ) (r : List ℕ) (rows : List (List ℕ)) where
  chosen_no : (limit : ℕ) → selects author r ≡ false → chosen author limit (r ∷ rows) ≡ chosen author limit rows
  unfolding chosen
  chosen_no limit e = ap (take limit) (keep_no (selects author) r rows e)

  chosen_yes : (limit : ℕ) → selects author r ≡ true → chosen author (suc limit) (r ∷ rows) ≡ r ∷ chosen author limit rows
  unfolding chosen
  chosen_yes limit e = ap (take (suc limit)) (keep_yes (selects author) r rows e)

chosen_nothing : (author : Option ℕ) (limit : ℕ) → chosen author limit [] ≡ []
unfolding chosen filters.keep
chosen_nothing author zero = refl
chosen_nothing author (suc limit) = refl

chosen_zero : (author : Option ℕ) (rows : List (List ℕ)) → chosen author 0 rows ≡ []
unfolding chosen
chosen_zero author rows = refl

-- ---- Blocks behind others

unfoldable behind : List (List ℕ) → Blocks → Blocks
behind done (failed n) = failed n
behind done (all rows) = all (done ++ rows)

behind_nothing : (b : Blocks) → b ≡ behind [] b
unfolding behind
behind_nothing (failed n) = refl
behind_nothing (all rows) = refl

behind_also : (done : List (List ℕ)) (row : List ℕ) (b : Blocks) → behind done (also row b) ≡ behind (done ++ (row ∷ [])) b
unfolding behind also
behind_also done row (failed n) = refl
behind_also done row (all rows) = ap all (sym (append_assoc done (row ∷ []) rows))

-- ---- The answer table

pub length_answer_row : (r : BlockReference) (at n : ℕ) → length (answer_row r at n) ≡ 8
unfolding answer_row key_words digest_words
length_answer_row r at n = refl

module _ (out : List ℕ) (i : ℕ) (row : List ℕ) where
  pub put_room : i < length out / 8 → answer_put out i row ≡ written out (8 * i) row
  unfolding answer_put pick
  put_room h = rw (lt-ltb i (length out / 8) h)

  pub put_full : length out / 8 ≤ i → answer_put out i row ≡ out
  unfolding answer_put pick
  put_full h = rw (le-ltb i (length out / 8) h)

-- one row more in the table, where it fits
push_row : (out : List ℕ) (n : ℕ) (done : List (List ℕ)) (row out' : List ℕ) → length row ≡ 8 → out' ≡ answer_put out n row
    → (n ≤ length out / 8 → Table out n done) → n + 1 ≤ length out' / 8 → Table out' (n + 1) (done ++ (row ∷ []))
push_row out n done row out' eight put before fits =
    ⊎_elim
    (λ t.
    let is : out' ≡ written out (8 * n) row = put ∙ put_room out n row t.1 in
    subst (λ (w : List ℕ). Table w (n + 1) (done ++ (row ∷ []))) (sym is)
    (push_table (before (omega (arith, t.1))) row eight (omega (arith, t.1))))
    (λ f. absurd (omega (arith, ap length (put ∙ put_full out n row (omega (arith, f.1))), f.1)))
    (leb_cases (suc n) (length out / 8))

-- ---- Blocks that are not loaded

pub at_most_one : (t : Bool) → pick t 1 0 ≤ 1
unfolding pick
at_most_one true = omega arith
at_most_one false = omega arith

pub one_unloaded : (r : List ℕ) (rows : List (List ℕ)) → unloaded (r ∷ rows) ≡ pick (eqb (get_or r 7 0) 0) 1 0 + unloaded rows
unfolding unloaded loaded pick
one_unloaded r rows = by (eqb (get_or r 7 0) 0)
  where
    by : (t : Bool) → pick (pick t false true) (unloaded rows) (suc (unloaded rows)) ≡ pick t 1 0 + unloaded rows
    by true = omega arith
    by false = omega arith

-- ---- The loop

module _ (log : Log) (author : Option ℕ) (limit : ℕ) (rows : List (List ℕ)) where
  -- the blocks that are asked for
  abbrev blocks : Blocks
  blocks = of_log read_rows log (chosen author limit rows)

  -- the rows that are still to come from row i on, once n are found
  abbrev to_come : ℕ → ℕ → List (List ℕ)
  to_come i n = chosen author (limit - n) (drop i rows)

  -- n rows are found before row i, and u of their blocks are not loaded
  pub record Collecting (i n u : ℕ) (out : List ℕ) : Type 0 where
    done : List (List ℕ)
    counted : n ≡ length done
    pub few : u ≤ n
    reads : blocks ≡ behind done (of_log read_rows log (to_come i n))
    loads : unloaded (chosen author limit rows) ≡ u + unloaded (to_come i n)
    table : n ≤ length out / 8 → Table out n done

  pub collecting_start : (out : List ℕ) → out ≡ zeros (length out) → Collecting 0 0 0 out
  collecting_start out h =
      let e : limit ≡ limit - 0 = omega arith in
      record {
        done = [];
        counted = refl;
        few = omega arith;
        reads = behind_nothing _ ∙ ap (λ (m : ℕ). behind [] (of_log read_rows log (chosen author m rows))) e;
        loads = omega (arith, ap (λ (m : ℕ). unloaded (chosen author m rows)) e);
        table = λ fits. table_empty out h;
      }

  -- what is answered, and what the table holds
  abbrev Answered : Result Collected Refusal → List ℕ → Type 0
  Answered c out = (c ≡ collected_of (chosen author limit rows) blocks) × HoldsRows blocks out

  module _ {i n u : ℕ} {out : List ℕ} (h : Collecting i n u out) where
    -- nothing more is chosen
    collected : to_come i n ≡ [] → Answered (Ok (record { rows = n; unloaded = u })) out
    unfolding behind read_rows collected_of unloaded
    collected none =
        let found : blocks ≡ all h.done =
        h.reads ∙ ap (λ (l : List (List ℕ)). behind h.done (of_log read_rows log l)) none ∙ ap all (append-nil h.done) in
        let count : n ≡ length h.done = h.counted in
        let not_loaded : u ≡ unloaded (chosen author limit rows) = omega (arith, h.loads, ap unloaded none) in (
          ap₂ (λ (n u : ℕ). Ok (record { rows = n; unloaded = u })) count not_loaded ∙ sym (ap (collected_of (chosen author limit rows)) found),
          subst (λ (b : Blocks). HoldsRows b out) (sym found) (λ fits. (h.table (omega (arith, fits, h.counted))).words),
        )

    pub collected_end : length rows ≤ i → Answered (Ok (record { rows = n; unloaded = u })) out
    collected_end ended = collected (ap (chosen author (limit - n)) (drop_of_length-le rows {i = i} ended) ∙ chosen_nothing author (limit - n))

    pub collected_limit : limit ≤ n → Answered (Ok (record { rows = n; unloaded = u })) out
    collected_limit full =
        let none : limit - n ≡ 0 = omega arith in
        collected (ap (λ (m : ℕ). chosen author m (drop i rows)) none ∙ chosen_zero author (drop i rows))

    module _ (more : i < length rows) where
      abbrev row : List ℕ
      row = get_or rows i []

      cons : drop i rows ≡ row ∷ drop (i + 1) rows
      cons = rw add-one (drop-cons rows i [] more)

      pub collecting_skip : selects author row ≡ false → Collecting (i + 1) n u out
      collecting_skip e =
          let same : to_come i n ≡ to_come (i + 1) n = ap (chosen author (limit - n)) cons ∙ chosen_no author row (drop (i + 1) rows) (limit - n) e in
          record {
            done = h.done;
            counted = h.counted;
            few = h.few;
            reads = h.reads ∙ ap (λ (l : List (List ℕ)). behind h.done (of_log read_rows log l)) same;
            loads = h.loads ∙ ap (λ (l : List (List ℕ)). u + unloaded l) same;
            table = h.table;
          }

      module _ (e : selects author row ≡ true) (room : n < limit) where
        takes : to_come i n ≡ row ∷ to_come (i + 1) (n + 1)
        takes =
            let some : limit - n ≡ suc (limit - (n + 1)) = omega arith in
            ap₂ (λ (m : ℕ) (l : List (List ℕ)). chosen author m l) some cons ∙ chosen_yes author row (drop (i + 1) rows) (limit - (n + 1)) e

        -- the blocks, by what the read of the row's is
        reads_next : {x : BlockRead} → of_log block_at log (get_or row 6 0) ≡ x
            → blocks ≡ behind h.done (followed_by x (of_log read_rows log (to_come (i + 1) (n + 1))))
        unfolding read_rows
        reads_next is =
            h.reads
            ∙ ap (λ (l : List (List ℕ)). behind h.done (of_log read_rows log l)) takes
            ∙ ap (λ (x : BlockRead). behind h.done (followed_by x (of_log read_rows log (to_come (i + 1) (n + 1))))) is

        -- a block that cannot be read
        pub collected_refused : {r : Refusal} → Err r ≡ read_of (of_log block_at log (get_or row 6 0)) → Answered (Err r) out
        unfolding behind followed_by collected_of
        collected_refused is =
            let told = told_refused (of_log block_at log (get_or row 6 0)) is in
            let fails : blocks ≡ failed told.0 = reads_next told.1 in (
              ap Err told.2 ∙ sym (ap (collected_of (chosen author limit rows)) fails),
              subst (λ (b : Blocks). HoldsRows b out) (sym fails) tt,
            )

        -- one that can, and its row of the answer
        pub collecting_next : {b : ReadBlock} → Ok b ≡ read_of (of_log block_at log (get_or row 6 0))
            → {out' : List ℕ} → out' ≡ answer_put out n (answer_row b.reference b.bytes.at b.bytes.left)
            → {v : ℕ} → v ≡ pick (eqb (get_or row 7 0) 0) 1 0 → Collecting (i + 1) (n + 1) (u + v) out'
        unfolding followed_by
        collecting_next {b} is {out'} put {v} loads_more =
            let found : List ℕ = answer_row b.reference b.bytes.at b.bytes.left in
            record {
              done = h.done ++ (found ∷ []);
              counted = omega (arith, h.counted, length-append h.done (found ∷ []));
              few = omega (arith, h.few, at_most_one (eqb (get_or row 7 0) 0), loads_more);
              reads =
                  reads_next (told_got (of_log block_at log (get_or row 6 0)) is)
                  ∙ behind_also h.done found (of_log read_rows log (to_come (i + 1) (n + 1)));
              loads = omega (arith, h.loads, ap unloaded takes, one_unloaded row (to_come (i + 1) (n + 1)), loads_more);
              table = push_row out n h.done found out' (length_answer_row b.reference b.bytes.at b.bytes.left) put h.table;
            }
