-- The loop that reads the blocks of a round and marks those that a parent includes. Assumes nothing.
use mathlib.Core.Path.{◌≡◌, refl, sym, ap, ap₂, ◌∙◌, subst}
use mathlib.Core.Bool.{Bool, true, false}
use mathlib.Core.List.{List, [], ◌∷◌, ◌++◌}
use Prim.Native.Nat.{ℕ, ◌+◌, ◌-◌, ◌*◌, ◌≤◌, ◌<◌}
use native.Mathlib.Numerals.{add-one}
use native.Mathlib.Omega.{arith}
use lib.Dec.{eqb}
use lib.ListN.{length, take, drop, get_or, length-take, take-append-drop}
use lib.Seq.{drop-drop, drop-append-le, drop-cons, take_all, take-suc}
use mir.Val.{bool_byte}
use Rattle.std.proofs.Common.{Option, Some, None, Result, Ok, Err}
use Rattle.refusal.specs.declared.Refusal.{Refusal}
use Rattle.wal_position.specs.declared.Log.{Log}
use Rattle.wal_position.specs.Logs.{of_log}
use Rattle.laws.specs.Pick.{pick}
use Rattle.laws.specs.Bytes.{bytes_at, written, AllBytes}
use Rattle.laws.proofs.Written.{length_written, drop_written}
use Rattle.rows.specs.Rows.{rows_of}
use Rattle.rows.proofs.Rows.{length_rows_of, rows_from, rows_from_none, rows_of_pushed, drop_rows_of}
use Rattle.types.specs.declared.BlockReference.{BlockReference}
use Rattle.block_reader.specs.declared.ReadBlock.{ReadBlock}
use Rattle.block_reader.specs.Reading as reading
use Rattle.block_reader.specs.Reading.{BlockRead, block_at, read_of}
use Rattle.filters.specs.Filters.{round_of}
use Rattle.query.specs.Query.{unloaded}
use Rattle.filters.specs.Segments.{between}
use Rattle.block_reader.proofs.Reading.{told_refused, told_got}
use Rattle.filters.proofs.Keeping.{between_rows}
use Rattle.query.proofs.Collecting.{one_unloaded}
use Rattle.reach.specs.declared.Searched.{Searched}
use Rattle.reach.specs.Blocks.{Indexed, Reads, failed, all, also, block_then, read_blocks}
use Rattle.includes.specs.References.{same, any}
use Rattle.includes.specs.Includes.{includes_of}
use Rattle.reach.specs.Reaching.{BlockPlace, AllBlockPlaces, Held, Ready, reached_in, parents_of, is_reached, next_parents, meets, Marked, searched_of}
use Rattle.reach.proofs.Appending.{joined, reads_append, unloaded_append, unloaded_most, placed_append, reached_in_append, parents_append}
use Rattle.reach.proofs.Any.{any_append}
use Rattle.block_reader.proofs.Decoding.{read_decodes}
use Rattle.includes.proofs.Tests.{or_false}

-- ---- Rows: one more, and those behind the ones that are written

module _ (w : List ℕ) (i : ℕ) (row : List ℕ) (eight : length row ≡ 8) (fits : 8 * i + 8 ≤ length w) where
  rows_pushed : (from : ℕ) → from ≤ i → rows_from (written w (8 * i) row) from (i + 1) ≡ rows_from w from i ++ (row ∷ [])
  rows_pushed from h =
      sym (drop_rows_of (written w (8 * i) row) from (i + 1) (omega arith))
      ∙ ap (drop from) (rows_of_pushed w i row fits eight)
      ∙ drop-append-le from (rows_of i w) (row ∷ []) (omega (arith, length_rows_of i w))
      ∙ ap (λ (l : List (List ℕ)). l ++ (row ∷ [])) (drop_rows_of w from i h)

  rows_behind : (to : ℕ) → i < to → drop (8 * to) (written w (8 * i) row) ≡ drop (8 * to) w
  rows_behind to h =
      let m : ℕ = 8 * i + length row in
      let e : m + (8 * to - m) ≡ 8 * to = omega arith in
      let part : (l : List ℕ) → drop (8 * to) l ≡ drop (8 * to - m) (drop m l) =
      (λ l. ap (λ (k : ℕ). drop k l) (sym e) ∙ sym (drop-drop (8 * to - m) m l)) in
      part (written w (8 * i) row) ∙ ap (drop (8 * to - m)) (drop_written w (8 * i) row (omega arith)) ∙ sym (part w)

-- ---- A working row

abbrev work_row : Bool → ℕ → ℕ → List ℕ
work_row t at n = bool_byte t ∷ at ∷ n ∷ 0 ∷ 0 ∷ 0 ∷ 0 ∷ 0 ∷ []

abbrev indexed : List ℕ → ℕ → BlockReference → ℕ → ℕ → Indexed
indexed s round r at n = record { round = round; reference = r; includes = includes_of (bytes_at s at n) }

row_marks : (s : List ℕ) (parents : List (List BlockReference)) (t : Bool) (round : ℕ) (r : BlockReference) (at n : ℕ) → t ≡ is_reached parents r
    → reached_in s (work_row t at n ∷ []) ≡ next_parents parents (indexed s round r at n ∷ [])
unfolding reached_in next_parents pick
row_marks s parents true round r at n e = sym (rw (sym e))
row_marks s parents false round r at n e = sym (rw (sym e))

-- one more block to meet
meets_next : (earlier : BlockReference) (parents : List (List BlockReference)) (done : List Indexed) (b : Indexed) {found t : Bool}
    → found ≡ meets earlier parents done → t ≡ is_reached parents b.reference
    → pick found true (pick t (same b.reference earlier) false) ≡ meets earlier parents (done ++ (b ∷ []))
unfolding meets any
meets_next earlier parents done b {found} {t} f e =
    ap₂ (λ (f t : Bool). pick f true (pick t (same b.reference earlier) false)) f e
    ∙ ap (pick (meets earlier parents done) true) (sym (or_false _))
    ∙ sym (any_append (λ (b : Indexed). pick (is_reached parents b.reference) (same b.reference earlier) false) done (b ∷ []))

-- ---- The loop at row i of the round

-- the round's working rows begin at row `from`, and those of the parents behind them
module _ (log : Log) (earlier : BlockReference) (parents : List (List BlockReference)) (rows : List (List ℕ)) (from : ℕ) where
  abbrev s : List ℕ
  s = log.image.now

  abbrev to : ℕ
  to = from + length rows

  -- the working rows were work₀
  pub record Reaching (work₀ work : List ℕ) (i u : ℕ) (found : Bool) : Type 0 where
    pub within : i ≤ length rows
    done : List Indexed
    reads : of_log read_blocks log (take i rows) ≡ all done
    loads : u ≡ unloaded (take i rows)
    met : found ≡ meets earlier parents done
    placed : AllBlockPlaces s (rows_from work from (from + i))
    marked : reached_in s (rows_from work from (from + i)) ≡ next_parents parents done
    behind : drop (8 * to) work ≡ drop (8 * to) work₀
    pub as_long : length work ≡ length work₀

  -- what is answered, and what the working rows hold
  abbrev Reached : Result Searched Refusal → List ℕ → Type 0
  Reached o work =
      (o ≡ searched_of (meets earlier parents) rows (of_log read_blocks log rows))
      × Marked s parents (between from to work) (of_log read_blocks log rows)

  pub reaching_start : (work : List ℕ) → Reaching work work 0 0 false
  unfolding read_blocks unloaded meets any reached_in next_parents
  reaching_start work =
      let none : rows_from work from (from + 0) ≡ [] = rows_from_none work from (from + 0) (omega arith) in
      record {
        within = omega arith;
        done = [];
        reads = refl;
        loads = refl;
        met = refl;
        placed = subst (AllBlockPlaces s) (sym none) tt;
        marked = ap (reached_in s) none;
        behind = refl;
        as_long = refl;
      }

  module _ {work₀ work : List ℕ} {i u : ℕ} {found : Bool} (h : Reaching work₀ work i u found) where
    -- the rows of the parents are as they were
    reaching_rows : (end : ℕ) → between to end work ≡ between to end work₀
    unfolding rows_from
    reaching_rows end =
        between_rows to end work ∙ ap (rows_of (end - to)) h.behind ∙ sym (between_rows to end work₀)

    pub reaching_parents : (bytes : List ℕ) (p : Option ℕ) → parents_of s bytes p to work ≡ parents_of s bytes p to work₀
    unfolding parents_of
    reaching_parents bytes None = refl
    reaching_parents bytes (Some n) = ap (reached_in s) (reaching_rows (to + n))

    reaching_held : (p : Option ℕ) → Held s p to work₀ → Held s p to work
    reaching_held None r = tt
    reaching_held (Some n) r = (omega (arith, r.0, h.as_long), subst (AllBlockPlaces s) (sym (reaching_rows (to + n))) r.1)

    pub reaching_ready : {bytes : List ℕ} {p : Option ℕ} → Ready s bytes p to work₀ → Ready s bytes p to work
    reaching_ready {bytes} {p} r =
        record { held = reaching_held p r.held; parses = r.parses }

    pub reaching_few : u ≤ i
    reaching_few = omega (arith, h.loads, unloaded_most (take i rows), length-take i rows)

    pub reached_all : length rows ≤ i → Reached (Ok (record { unloaded = u; found = found })) work
    unfolding searched_of
    reached_all ended =
        let last : from + i ≡ to = omega (arith, h.within) in
        let every : take i rows ≡ rows = take_all i rows ended in
        let works : between from to work ≡ rows_from work from (from + i) = between_rows from to work ∙ ap (rows_from work from) (sym last) in
        let read : of_log read_blocks log rows ≡ all h.done = ap (of_log read_blocks log) (sym every) ∙ h.reads in
        let loads : u ≡ unloaded rows = h.loads ∙ ap unloaded every in (
          ap₂ (λ (u : ℕ) (f : Bool). Ok (record { unloaded = u; found = f })) loads h.met
              ∙ sym (ap (searched_of (meets earlier parents) rows) read),
          subst (Marked s parents (between from to work)) (sym read)
              (subst (AllBlockPlaces s) (sym works) h.placed, ap (reached_in s) works ∙ h.marked),
        )

    module _ (more : i < length rows) where
      abbrev row : List ℕ
      row = get_or rows i []

      abbrev read : BlockRead
      read = of_log block_at log (get_or row 6 0)

      -- the rows so far with this one, and those behind it
      next : take (i + 1) rows ≡ take i rows ++ (row ∷ [])
      next = rw add-one (take-suc rows i [] more)

      parts : rows ≡ take i rows ++ row ∷ drop (i + 1) rows
      parts = sym (take-append-drop i rows) ∙ ap (λ (l : List (List ℕ)). take i rows ++ l) (rw add-one (drop-cons rows i [] more))

      -- a block that cannot be read
      pub reached_refused : {r : Refusal} → Err r ≡ read_of read → Reached (Err r) work
      unfolding read_blocks block_then joined searched_of
      reached_refused is =
          let told = told_refused read is in
          let rest : List (List ℕ) = drop (i + 1) rows in
          let fails : of_log read_blocks log rows ≡ failed told.0 =
          ap (of_log read_blocks log) parts
          ∙ reads_append log.exponent s log.used (take i rows) (row ∷ rest)
          ∙ ap (λ (r : Reads). joined r (of_log read_blocks log (row ∷ rest))) h.reads
          ∙ ap (λ (x : BlockRead). joined (all h.done) (block_then s (round_of row) x (of_log read_blocks log rest))) told.1 in (
            ap Err told.2 ∙ sym (ap (searched_of (meets earlier parents) rows) fails),
            subst (Marked s parents (between from to work)) (sym fails) tt,
          )

      -- one that can, and its working row
      pub reaching_next : AllBytes s → {b : ReadBlock} → Ok b ≡ read_of read → {t : Bool} → t ≡ is_reached parents b.reference
          → {work' : List ℕ} → work' ≡ written work (8 * (from + i)) (work_row t b.bytes.at b.bytes.left) → 8 * to ≤ length work
          → {v : ℕ} → v ≡ pick (eqb (get_or row 7 0) 0) 1 0
          → {f : Bool} → f ≡ pick found true (pick t (same b.reference earlier) false)
          → Reaching work₀ work' (i + 1) (u + v) f
      unfolding read_blocks block_then also joined unloaded
      reaching_next bytes {b} is {t} asked {work'} put fits {v} loaded {f} meeting =
          let at : ℕ = b.bytes.at in
          let n : ℕ = b.bytes.left in
          let made : List ℕ = work_row t at n in
          let this : Indexed = indexed s (round_of row) b.reference at n in
          let got : read ≡ reading.BlockRead.got b.reference at n = told_got read is in
          let decoded = read_decodes log.exponent s log.used (get_or row 6 0) bytes got in
          let behind_this : from + (i + 1) ≡ (from + i) + 1 = omega arith in
          let works : rows_from work' from (from + (i + 1)) ≡ rows_from work from (from + i) ++ (made ∷ []) =
          ap₂ rows_from₂ put behind_this ∙ rows_pushed work (from + i) made refl (omega arith) from (omega arith) in
          let here : BlockPlace s made =
          record { within = decoded.within; parses = (decoded.value, decoded.end, decoded.decodes) } in
          record {
            within = omega arith;
            done = h.done ++ (this ∷ []);
            reads =
                ap (of_log read_blocks log) next
                ∙ reads_append log.exponent s log.used (take i rows) (row ∷ [])
                ∙ ap (λ (r : Reads). joined r (of_log read_blocks log (row ∷ []))) h.reads
                ∙ ap (λ (x : BlockRead). joined (all h.done) (block_then s (round_of row) x (all []))) got;
            loads = omega (arith, h.loads, ap unloaded next, unloaded_append (take i rows) (row ∷ []), one_unloaded row [], loaded);
            met = meeting ∙ meets_next earlier parents h.done this h.met asked;
            placed = subst (AllBlockPlaces s) (sym works) (placed_append s (rows_from work from (from + i)) (made ∷ []) h.placed (here, tt));
            marked =
                ap (reached_in s) works
                ∙ reached_in_append s (rows_from work from (from + i)) (made ∷ [])
                ∙ ap₂ (λ (a b : List (List BlockReference)). a ++ b) h.marked (row_marks s parents t (round_of row) b.reference at n asked)
                ∙ sym (parents_append parents h.done (this ∷ []));
            behind = ap (drop (8 * to)) put ∙ rows_behind work (from + i) made refl (omega arith) to (omega arith) ∙ h.behind;
            as_long = ap length put ∙ length_written work (8 * (from + i)) made (omega arith) ∙ h.as_long;
          }
        where
          rows_from₂ : List ℕ → ℕ → List (List ℕ)
          rows_from₂ w n = rows_from w from n
