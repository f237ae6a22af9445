-- Lines by the words of rows are those of the entries, and the foot is that of the recovery. Assumes nothing.
use mathlib.Core.Path.{◌≡◌, refl, ap, ap₂}
use mathlib.Core.Bool.{Bool, true, false}
use mathlib.Core.List.{List, [], ◌∷◌, map, append_assoc}
use Prim.Native.Nat.{ℕ}
use native.Mathlib.Omega.{arith}
use lib.ListN.{length}
use Rattle.laws.specs.Pick.{pick}
use Rattle.text.specs.Columns.{blanks, right, spaced}
use Rattle.wal.specs.Walk.{Stop}
use Rattle.wal.specs.Answers.{stop_of}
use Rattle.listing.proofs.Lines.{word_is}
use Rattle.index.specs.Keys.{key_words}
use Rattle.replay.specs.Items.{Item, is_block, is_payload, is_own_block, is_state, is_commit, ReplayEntry}
use Rattle.replay.specs.Rules.{can_be_pending, all_keep_pending, pending, unprocessed, committed}
use Rattle.state.specs.Tables.{pending_row}
use Rattle.page_lines.specs.Lines.{line, kind, author, round, row, foot}
use Rattle.page_lines.specs.Words.{count_field, kind_field, row_text, foot_text}

-- what is pending is a block or a payload
row_is : (x : ReplayEntry) → can_be_pending x.item ≡ true → row_text (pending_row x) ≡ row x
unfolding row_text row pending_row count_field kind_field spaced kind author round key_words pick right blanks can_be_pending
row_is x h = from x.item refl
  where
    not_pending : false ≡ true → row_text (pending_row x) ≡ row x
    not_pending z = let n : ◌≡◌ {A = ℕ} 0 1 = cc in absurd (omega arith)

    from : (i : Item) → x.item ≡ i → row_text (pending_row x) ≡ row x
    from (is_block r) e = rw e (ap line (simp append_assoc))
    from is_payload e = rw e (ap line (simp append_assoc))
    from (is_own_block next r) e = not_pending (rw e at h)
    from is_state e = not_pending (rw e at h)
    from (is_commit c) e = not_pending (rw e at h)

pub rows_are : (l : List ReplayEntry) → map row_text (map pending_row (pending l)) ≡ map row (pending l)
unfolding pending pick
rows_are [] = refl
rows_are (x ∷ later) = from (can_be_pending x.item) refl (all_keep_pending x.entry.start later) (rows_are later)
  where
    from : (t : Bool) → can_be_pending x.item ≡ t → (u : Bool) → map row_text (map pending_row (pending later)) ≡ map row (pending later)
        → map row_text (map pending_row (pick t (pick u (x ∷ pending later) (pending later)) (pending later)))
        ≡ map row (pick t (pick u (x ∷ pending later) (pending later)) (pending later))
    from true e true h = ap₂ ◌∷◌ (row_is x e) h
    from true e false h = h
    from false e u h = h

-- the foot, by the numbers of rows
pub foot_is : (w : Stop) (l : List ReplayEntry)
    → foot_text (length (pending l)) (length (unprocessed l)) (length (committed l)) (stop_of w) ≡ foot w l
unfolding foot_text foot count_field spaced
foot_is w l = rw (word_is w) (ap line (simp append_assoc))
