-- What a recovery leaves for its page: the number of a refusal, or the pending rows. Assumes nothing.
use mathlib.Core.Path.{◌≡◌, refl, sym, ap, ap₂, ◌∙◌, subst}
use mathlib.Core.List.{List, [], ◌∷◌, map}
use Prim.Native.Nat.{ℕ, ◌-◌, ◌*◌, ◌^◌, ◌≤◌}
use native.Mathlib.Omega.{arith}
use lib.ListN.{length, length-append, length-map}
use Rattle.std.specs.Prelude.{Ok, Err}
use Rattle.laws.specs.Bytes.{zeros}
use Rattle.laws.proofs.Written.{length_zeros}
use Rattle.text.specs.Put.{Put}
use Rattle.refusal.specs.Refusals.{number, refusal_of}
use Rattle.wal.specs.Walk as walk
use Rattle.wal.specs.Answers.{stop_of, refused_at, walked_of}
use Rattle.wal.specs.declared.RefusedAt.{RefusedAt}
use Rattle.wal.specs.declared.Stop.{Stop}
use Rattle.wal.specs.declared.Walked.{Walked}
use Rattle.rows.specs.Rows.{rows_of}
use Rattle.tables.specs.Tables.{EightWords, table_of}
use Rattle.tables.proofs.Tables.{rows_of_flat, length_flat}
use Rattle.index.specs.Keys.{key_words, digest_words}
use Rattle.replay.specs.Items.{Item, is_block, is_payload, is_own_block, is_state, is_commit, ReplayEntry}
use Rattle.replay.specs.Rules.{pending, unprocessed, committed}
use Rattle.replay.specs.Recovery.{Recovery, refused, recovered, recover}
use Rattle.state.specs.declared.Replay.{Replay}
use Rattle.state.specs.Tables.{pending_row, blocks_of, replay_of}
use Rattle.recovered.specs.declared.Recovered.{Recovered}
use Rattle.recovered.specs.Answers.{refused_with}
use Rattle.replay_log.specs.Answers.{recovered_of, Tables, rows_lent, answer_table, pending_rows, Answers}
use Rattle.bounds.proofs.Bounds.{bounds}
use Rattle.page_lines.specs.Lines.{number_line, foot}
use Rattle.page_lines.specs.Words.{row_text, foot_text}
use Rattle.page_lines.proofs.Rows.{rows_are, foot_is}
use Rattle.page_text.specs.Page.{pages, page_of}
use Rattle.page.specs.Answers.{refusal_in, FillsRecoveryPage}

-- ---- The table of pending rows

eight_words : (x : ReplayEntry) → length (pending_row x) ≡ 8
unfolding pending_row key_words digest_words zeros
eight_words x = from x.item refl
  where
    from : (i : Item) → x.item ≡ i → length (pending_row x) ≡ 8
    from (is_block r) e = rw e
    from is_payload e = rw e
    from (is_own_block next r) e = rw e
    from is_state e = rw e
    from (is_commit c) e = rw e

eights : (l : List ReplayEntry) → EightWords (map pending_row l)
eights [] = tt
eights (x ∷ l) = (eight_words x, eights l)

-- a table that has kept its length has room for its rows
module _ (t : List ℕ) (l : List ReplayEntry) (is : t ≡ table_of (length t) (map pending_row l)) where
  fits : 8 * length l ≤ length t
  unfolding table_of
  fits =
      let n = length_flat (map pending_row l) (eights l) in
      omega (arith, simp (length-append, length_zeros, n, length-map) at (ap length is))

  rows_there : rows_of (length l) t ≡ map pending_row l
  unfolding table_of
  rows_there =
      ap₂ (λ (n : ℕ) (w : List ℕ). rows_of n w) (sym (length-map l pending_row)) is
      ∙ rows_of_flat (map pending_row l) (zeros (length t - 8 * length (map pending_row l))) (eights l)

-- ---- A recovery by its answer

-- one that is not refused
record Stops (own : ℕ) (x : Recovery) (v : Stop) (s : Replay) : Type 0 where
  word : walk.Stop
  end : ℕ
  entries : List ReplayEntry
  is : x ≡ recovered word end entries
  stop : stop_of word ≡ v
  replay : s ≡ replay_of own entries

module _ (used own : ℕ) where
  refused_is : (x : Recovery) {f : RefusedAt} → (recovered_of used own x).walked ≡ Err f → (n p : ℕ) × (x ≡ refused n p) × (f.refusal ≡ refusal_of n)
  unfolding recovered_of refused_with refused_at walked_of
  refused_is (refused n p) {f} h = (n, p, refl, let same : refused_at n p ≡ f = cc in sym (ap (λ (f : RefusedAt). f.refusal) same))
  refused_is (recovered w e l) h = absurd (cc)

  stops_is : (x : Recovery) {w : Walked} → (recovered_of used own x).walked ≡ Ok w → Stops own x w.stop (recovered_of used own x).replay
  unfolding recovered_of refused_with walked_of
  stops_is (refused n p) h = absurd (cc)
  stops_is (recovered v e l) {w} h =
      record {
        word = v;
        end = e;
        entries = l;
        is = refl;
        stop =
            let same : ◌≡◌ {A = Walked} (record { stop = stop_of v; end = record { 0 = e }; unread = used - e }) w = cc in
            ap (λ (w : Walked). w.stop) same;
        replay = refl;
      }

-- ---- The page

module _ (k : ℕ) (image : List ℕ) (used size own : ℕ) (before : Tables) {after : Tables} {r : Recovered} (h : Answers used own (recover k image used size own (rows_lent before)) before r after) where
  pub refused_page : {f : RefusedAt} {out out' : List ℕ} {len : ℕ} → r.walked ≡ Err f → Put 0 (number_line (number f.refusal)) out out' len
      → FillsRecoveryPage k image used size own before out (record { recovered = Err f.refusal; length = len }) after out'
  unfolding page_of refusal_in
  refused_page is put =
      let found = refused_is used own (recover k image used size own (rows_lent before)) (ap (λ (r : Recovered). r.walked) (sym h.answer) ∙ is) in
      let same = ap number found.3 ∙ bounds.numbered k image used size own (rows_lent before) found.0 found.1 found.2 in
      record {
        refusal = rw found.2 (ap Err found.3);
        text = rw (found.2, ← same) put;
        words = h.words;
      }

  module _ {w : Walked} (is : r.walked ≡ Ok w) (kept : length after.pending ≡ length before.pending) where
    stops : Stops own (recover k image used size own (rows_lent before)) w.stop r.replay
    stops =
        rw h.answer (stops_is used own (recover k image used size own (rows_lent before)) (ap (λ (r : Recovered). r.walked) (sym h.answer) ∙ is))

    count : r.replay.pending ≡ length (pending stops.entries)
    unfolding replay_of
    count = ap (λ (s : Replay). s.pending) stops.replay

    table : after.pending ≡ table_of (length after.pending) (map pending_row (pending stops.entries))
    unfolding answer_table pending_rows
    table =
        ap (λ (t : Tables). t.pending) h.words
        ∙ ap (answer_table (length before.pending) pending_rows) stops.is
        ∙ ap (λ (n : ℕ). table_of n (map pending_row (pending stops.entries))) (sym kept)

    pub pages_fit : (r.replay.pending ≤ 2 ^ 40) × (8 * r.replay.pending ≤ length after.pending)
    pages_fit =
        let few = bounds.pending k image used size own (rows_lent before) stops.word stops.end stops.entries stops.is in
        let most = bounds.used k image used size own (rows_lent before) stops.word stops.end stops.entries stops.is in
        (omega (arith, few, most, count), omega (arith, count, fits after.pending (pending stops.entries) table))

    pub stopped_page : {rows : List (List ℕ)} {out out' : List ℕ} {len : ℕ} → rows ≡ rows_of r.replay.pending after.pending
        → Put 0 (pages (foot_text (length rows) r.replay.blocks.unprocessed r.replay.committed w.stop) (map row_text rows)) out out' len
        → FillsRecoveryPage k image used size own before out (record { recovered = Ok tt; length = len }) after out'
    unfolding page_of refusal_in replay_of blocks_of
    stopped_page {rows} {out} {out'} {len} from put =
        let l = stops.entries in
        let rows_is : rows ≡ map pending_row (pending l) =
        from ∙ ap (λ (n : ℕ). rows_of n after.pending) count ∙ rows_there after.pending (pending l) table in
        let foot_same : foot_text (length rows) r.replay.blocks.unprocessed r.replay.committed w.stop ≡ foot stops.word l =
        ap (λ (n : ℕ). foot_text n r.replay.blocks.unprocessed r.replay.committed w.stop) (ap length rows_is ∙ length-map (pending l) pending_row)
        ∙ ap (λ (s : Replay). foot_text (length (pending l)) s.blocks.unprocessed s.committed w.stop) stops.replay
        ∙ ap (λ (v : Stop). foot_text (length (pending l)) (length (unprocessed l)) (length (committed l)) v) (sym stops.stop)
        ∙ foot_is stops.word l in
        let page_same = ap₂ pages foot_same (ap (map row_text) rows_is ∙ rows_are l) ∙ sym (ap page_of stops.is) in
        record {
          refusal = sym (ap refusal_in stops.is);
          text = subst (λ (v : List ℕ). Put 0 v out out' len) page_same put;
          words = h.words;
        }
