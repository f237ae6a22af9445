-- Tables: what a store, a removal and a sorted store of a row make of the rows, with zeros kept behind them. Assumes nothing.
use mathlib.Core.Path.{◌≡◌, refl, sym, ap, ap₂, ◌∙◌, subst}
use mathlib.Core.Bool.{true, false}
use mathlib.Core.List.{List, [], ◌∷◌, ◌++◌, append_assoc}
use mathlib.Core.Logic.{⊎_elim}
use Prim.Native.Nat.{ℕ, zero, suc, ◌+◌, ◌-◌, ◌*◌, ◌/◌, ◌≤◌, ◌<◌}
use native.Mathlib.Nat.{add_comm}
use native.Mathlib.Omega.{arith}
use lib.ListN.{length, take, drop, set, get_or, length-append, length-take, length-drop, take-append-drop, replicate-append-replicate}
use lib.Seq.{drop_at, drop-drop}
use Rattle.laws.specs.Bytes.{bytes_at, written, zeros}
use Rattle.laws.proofs.Tests.{leb_cases}
use Rattle.laws.proofs.Written.{length_zeros, length_written, length_bytes_at, drop_written}
use Rattle.std.specs.declared.cmp.Ordering.TheVariants.{Less, Equal, Greater}
use Rattle.std.specs.Prelude.{Option, Some, None, Result, Ok, Err}
use Rattle.rows.specs.Rows.{rows_of, flat, key, compared, choose, Leads, Ascending, below, has_key, place_of}
use Rattle.tables.specs.Tables.{table_of, EightWords, Table, dropped, upserted, upsert_count, put_row}
use Rattle.rows.proofs.Lexicographic.{order_cases, below_of, above_of, compared_equal, compared_self}
use Rattle.rows.proofs.Rows.{length_rows_of, flat_rows_of, rows_of_cons, rows_of_put, rows_of_pushed, rows_of_inserted, behind_inserted, rows_of_dropped, behind_dropped}
use Rattle.rows.proofs.Ascending.{leads_none, leads_trans}
use Rattle.rows.proofs.Places.{at_place, gap_place}
use Rattle.tables.proofs.Stores.{at_within, at_words, at_count, gap_within, gap_words, gap_count, full_words, full_count}

-- ---- Rows of eight words

pub length_flat : (rows : List (List ℕ)) → EightWords rows → length (flat rows) ≡ 8 * length rows
unfolding flat
length_flat [] h = refl
length_flat (r ∷ rows) h = omega (arith, length-append r (flat rows), length_flat rows h.1, h.0)

pub rows_of_flat : (rows : List (List ℕ)) (w : List ℕ) → EightWords rows → rows_of (length rows) (flat rows ++ w) ≡ rows
unfolding rows_of flat
rows_of_flat [] w h = refl
rows_of_flat (r ∷ rows) w h =
    ap (rows_of (suc (length rows))) (append_assoc r (flat rows) w)
    ∙ rows_of_cons (length rows) r (flat rows ++ w) h.0
    ∙ ap (λ (l : List (List ℕ)). r ∷ l) (rows_of_flat rows w h.1)

pub eights_rows_of : (n : ℕ) (w : List ℕ) → 8 * n ≤ length w → EightWords (rows_of n w)
unfolding rows_of
eights_rows_of zero w h = tt
eights_rows_of (suc n) w h =
    (simp length-take (omega arith), eights_rows_of n (drop 8 w) (omega (arith, length-drop 8 w)))

-- the same, as it is known of a slice of rows
pub eights_told : (rows : List (List ℕ)) → ((i : ℕ) → i < length rows → length (get_or rows i []) ≡ 8) → EightWords rows
eights_told [] h = tt
eights_told (r ∷ rows) h = (h 0 (omega arith), eights_told rows (λ i l. h (suc i) (omega arith)))

zeros_append : (m n : ℕ) → zeros m ++ zeros n ≡ zeros (m + n)
unfolding zeros
zeros_append m n = replicate-append-replicate m n 0

-- ---- A table as its rows and what lies behind them

pub table_rows : {t : List ℕ} {n : ℕ} {rows : List (List ℕ)} → Table t n rows → rows_of n t ≡ rows
unfolding table_of
table_rows {t} {n} {rows} h =
    ap₂ (λ (k : ℕ) (w : List ℕ). rows_of k w) h.count h.words
    ∙ rows_of_flat rows (zeros (length t - 8 * length rows)) h.eights

pub table_behind : {t : List ℕ} {n : ℕ} {rows : List (List ℕ)} → Table t n rows → drop (8 * n) t ≡ zeros (length t - 8 * n)
unfolding table_of
table_behind {t} {n} {rows} h =
    let all : List ℕ = zeros (length t - 8 * length rows) in
    ap (drop (8 * n)) h.words
    ∙ drop_at (flat rows) all (8 * n) (omega (arith, length_flat rows h.eights, h.count))
    ∙ ap (λ (k : ℕ). zeros (length t - 8 * k)) (sym h.count)

pub table_of_lem : (t : List ℕ) (n : ℕ) (rows : List (List ℕ)) → 8 * n ≤ length t → rows_of n t ≡ rows
    → drop (8 * n) t ≡ zeros (length t - 8 * n) → Table t n rows
unfolding table_of
table_of_lem t n rows fits is behind =
    let as_many : n ≡ length rows = sym (length_rows_of n t) ∙ ap length is in
    record {
      count = as_many;
      eights = subst EightWords is (eights_rows_of n t fits);
      fits = fits;
      words =
          sym (take-append-drop (8 * n) t)
          ∙ ap₂ (λ (a b : List ℕ). a ++ b) (sym (flat_rows_of n t) ∙ ap flat is) behind
          ∙ ap (λ (k : ℕ). flat rows ++ zeros (length t - 8 * k)) as_many;
    }

pub table_empty : (t : List ℕ) → t ≡ zeros (length t) → Table t 0 []
unfolding rows_of
table_empty t h = table_of_lem t 0 [] (omega arith) refl (h ∙ ap zeros (omega arith))

-- the rows that a table has room for are the whole ones
pub fits_lent : (n m : ℕ) → 8 * n ≤ m → n ≤ m / 8
fits_lent n m h = omega arith

-- ---- A row behind the last one, and rows removed

behind_more : (t : List ℕ) (n m k : ℕ) → drop n t ≡ zeros (length t - n) → m ≡ k + n → m ≤ length t → drop m t ≡ zeros (length t - m)
unfolding zeros
behind_more t n m k h e fits =
    let split : length t - n ≡ k + (length t - m) = omega arith in
    ap (λ (j : ℕ). drop j t) e
    ∙ ap (λ (j : ℕ). drop j t) (add_comm k n)
    ∙ sym (drop-drop k n t)
    ∙ ap (drop k) (h ∙ ap zeros split ∙ sym (zeros_append k (length t - m)))
    ∙ drop_at (zeros k) (zeros (length t - m)) k (length_zeros k)

module _ {t : List ℕ} {n : ℕ} {rows : List (List ℕ)} (h : Table t n rows) where
  pub push_table : (row : List ℕ) → length row ≡ 8 → 8 * n + 8 ≤ length t
      → Table (written t (8 * n) row) (n + 1) (rows ++ (row ∷ []))
  push_table row eight fits =
      let long : length (written t (8 * n) row) ≡ length t = length_written t (8 * n) row (omega arith) in
      let end : 8 * n + length row ≡ 8 * (n + 1) = omega arith in
      let kept : drop (8 * (n + 1)) (written t (8 * n) row) ≡ drop (8 * (n + 1)) t =
      rw end at (drop_written t (8 * n) row (omega arith)) in
      table_of_lem (written t (8 * n) row) (n + 1) (rows ++ (row ∷ [])) (omega arith)
      (rows_of_pushed t n row fits eight ∙ ap (λ (l : List (List ℕ)). l ++ (row ∷ [])) (table_rows h))
      (kept ∙ behind_more t (8 * n) (8 * (n + 1)) 8 (table_behind h) (omega arith) (omega arith) ∙ ap (λ (k : ℕ). zeros (k - 8 * (n + 1))) (sym long))

  pub drop_table : (m : ℕ) → m ≤ n → Table (dropped t n m) (n - m) (drop m rows)
  unfolding dropped
  drop_table m within =
      let b : List ℕ = bytes_at t (8 * m) (8 * (n - m)) in
      let lb : length b ≡ 8 * (n - m) = length_bytes_at t (8 * m) (8 * (n - m)) (omega (arith, h.fits)) in
      let lv : length (b ++ zeros (8 * m)) ≡ 8 * n = omega (arith, length-append b (zeros (8 * m)), length_zeros (8 * m)) in
      let long : length (written t 0 (b ++ zeros (8 * m))) ≡ length t =
      length_written t 0 (b ++ zeros (8 * m)) (omega (arith, h.fits)) in
      table_of_lem (written t 0 (b ++ zeros (8 * m))) (n - m) (drop m rows) (omega (arith, h.fits))
      (rows_of_dropped t n m within h.fits ∙ ap (drop m) (table_rows h))
      (behind_dropped t n m within h.fits
      ∙ ap (λ (l : List ℕ). zeros (8 * m) ++ l) (table_behind h)
      ∙ zeros_append (8 * m) (length t - 8 * n)
      ∙ ap zeros (omega (arith, h.fits)))

-- ---- A row stored at its place

-- a write changes nothing behind it
drop_past : (t : List ℕ) (p : ℕ) (v : List ℕ) (n : ℕ) → p + length v ≤ n → n ≤ length t → drop n (written t p v) ≡ drop n t
drop_past t p v n h fits =
    let e : n ≡ p + length v + (n - (p + length v)) = omega arith in
    ap (λ (k : ℕ). drop k (written t p v)) e
    ∙ sym (drop-drop (n - (p + length v)) (p + length v) (written t p v))
    ∙ ap (drop (n - (p + length v))) (drop_written t p v (omega arith))
    ∙ drop-drop (n - (p + length v)) (p + length v) t
    ∙ sym (ap (λ (k : ℕ). drop k t) e)

-- how many keys are below k, by where the first stands to it
module _ (k x : List ℕ) (rows : List (List ℕ)) where
  below_next : compared (key x) k ≡ Less → below k (x ∷ rows) ≡ suc (below k rows)
  unfolding below choose
  below_next b = rw b

  below_here : compared (key x) k ≡ Equal → below k (x ∷ rows) ≡ below k rows
  unfolding below choose
  below_here e = rw e

  below_none : compared (key x) k ≡ Greater → below k (x ∷ rows) ≡ below k rows
  unfolding below choose
  below_none g = rw g

  present_next : compared (key x) k ≡ Less → has_key k (x ∷ rows) ≡ has_key k rows
  unfolding has_key choose
  present_next b = rw b

  present_here : compared (key x) k ≡ Equal → has_key k (x ∷ rows) ≡ true
  unfolding has_key choose
  present_here e = rw e

  present_none : compared (key x) k ≡ Greater → has_key k (x ∷ rows) ≡ has_key k rows
  unfolding has_key choose
  present_none g = rw g

module _ (row x : List ℕ) (rows : List (List ℕ)) where
  pub put_before : compared (key row) (key x) ≡ Less → put_row row (x ∷ rows) ≡ row ∷ x ∷ rows
  unfolding put_row choose
  put_before h = rw h

  pub put_here : compared (key row) (key x) ≡ Equal → put_row row (x ∷ rows) ≡ row ∷ rows
  unfolding put_row choose
  put_here h = rw h

  pub put_later : compared (key row) (key x) ≡ Greater → put_row row (x ∷ rows) ≡ x ∷ put_row row rows
  unfolding put_row choose
  put_later h = rw h

true_false : true ≡ false → ⊥
true_false e = let z : ◌≡◌ {A = ℕ} 0 1 = cc in omega arith

-- the row with its key is replaced
pub put_present : (row : List ℕ) (rows : List (List ℕ)) → Ascending rows → has_key (key row) rows ≡ true
    → put_row row rows ≡ set rows (below (key row) rows) row
unfolding has_key
put_present row [] a p = absurd (true_false (sym p))
put_present row (x ∷ rows) a p =
    ⊎_elim
    (λ b.
    put_later row x rows (above_of (key x) (key row) b)
    ∙ ap (λ (l : List (List ℕ)). x ∷ l) (put_present row rows a.1 (sym (present_next (key row) x rows b) ∙ p))
    ∙ sym (ap (λ (n : ℕ). set (x ∷ rows) n row) (below_next (key row) x rows b)))
    (⊎_elim
    (λ e.
    let same : key x ≡ key row = compared_equal (key x) (key row) e in
    let back : compared (key row) (key x) ≡ Equal = rw same (compared_self (key row)) in
    let none : below (key row) (x ∷ rows) ≡ 0 =
    below_here (key row) x rows e
    ∙ (leads_none (key row) rows (subst (λ (k : List ℕ). Leads k rows) same a.0) a.1).0 in
    put_here row x rows back ∙ sym (ap (λ (n : ℕ). set (x ∷ rows) n row) none))
    (λ g.
    let none : has_key (key row) rows ≡ false =
    (leads_none (key row) rows (leads_trans (key row) (key x) rows (below_of (key x) (key row) g) a.0) a.1).1 in
    absurd (true_false (sym p ∙ present_none (key row) x rows g ∙ none))))
    (order_cases (compared (key x) (key row)))

-- it joins before the rows with higher keys
pub put_absent : (row : List ℕ) (rows : List (List ℕ)) → Ascending rows → has_key (key row) rows ≡ false
    → put_row row rows ≡ take (below (key row) rows) rows ++ row ∷ drop (below (key row) rows) rows
unfolding put_row below
put_absent row [] a p = refl
put_absent row (x ∷ rows) a p =
    let at : ℕ → List (List ℕ) = λ n. take n (x ∷ rows) ++ row ∷ drop n (x ∷ rows) in
    ⊎_elim
    (λ b.
    put_later row x rows (above_of (key x) (key row) b)
    ∙ ap (λ (l : List (List ℕ)). x ∷ l) (put_absent row rows a.1 (sym (present_next (key row) x rows b) ∙ p))
    ∙ sym (ap at (below_next (key row) x rows b)))
    (⊎_elim
    (λ e. absurd (true_false (sym (present_here (key row) x rows e) ∙ p)))
    (λ g.
    let before : compared (key row) (key x) ≡ Less = below_of (key x) (key row) g in
    let none : below (key row) (x ∷ rows) ≡ 0 =
    below_none (key row) x rows g
    ∙ (leads_none (key row) rows (leads_trans (key row) (key x) rows before a.0) a.1).0 in
    put_before row x rows before ∙ sym (ap at none)))
    (order_cases (compared (key x) (key row)))

-- What a sorted store answers and leaves: the rows with the row among them, or no room for them.
abbrev pub Stored : Option ℕ → List ℕ → List (List ℕ) → Type 0
Stored (Some m) t rows = Table t m rows
Stored None t rows = length t < 8 * length rows

module _ {t : List ℕ} {n : ℕ} {rows : List (List ℕ)} (h : Table t n rows) (ascends : Ascending rows) (row : List ℕ) (eight : length row ≡ 8) where
  upsert_at : (i : ℕ) → place_of (key row) (rows_of n t) ≡ Ok i → Stored (upsert_count t n row) (upserted t n row) (put_row row rows)
  upsert_at i is =
      let within : i < n = at_within t n row (sym is) (subst Ascending (sym (table_rows h)) ascends) in
      let at = at_place (key row) (rows_of n t) (sym is) in
      let long : length (written t (8 * i) row) ≡ length t = length_written t (8 * i) row (omega (arith, h.fits)) in
      let rows_are : rows_of n (written t (8 * i) row) ≡ put_row row rows =
      rows_of_put t n i row eight within h.fits
      ∙ ap₂ (λ (l : List (List ℕ)) (j : ℕ). set l j row) (table_rows h) (at.1 ∙ ap (below (key row)) (table_rows h))
      ∙ sym (put_present row rows ascends (sym (ap (has_key (key row)) (table_rows h)) ∙ at.0)) in
      let behind : drop (8 * n) (written t (8 * i) row) ≡ zeros (length (written t (8 * i) row) - 8 * n) =
      drop_past t (8 * i) row (8 * n) (omega arith) (omega (arith, h.fits))
      ∙ table_behind h
      ∙ ap (λ (k : ℕ). zeros (k - 8 * n)) (sym long) in
      subst (λ (u : Option ℕ). Stored u (upserted t n row) (put_row row rows)) (at_count t n row (sym is))
      (subst (λ (w : List ℕ). Table w n (put_row row rows)) (at_words t n row (sym is))
      (table_of_lem (written t (8 * i) row) n (put_row row rows) (omega (arith, h.fits)) rows_are behind))

  upsert_gap : (i : ℕ) → place_of (key row) (rows_of n t) ≡ Err i → Stored (upsert_count t n row) (upserted t n row) (put_row row rows)
  upsert_gap i is =
      let gap = gap_place (key row) (rows_of n t) (sym is) in
      let absent : has_key (key row) rows ≡ false = sym (ap (has_key (key row)) (table_rows h)) ∙ gap.0 in
      let at : i ≡ below (key row) rows = gap.1 ∙ ap (below (key row)) (table_rows h) in
      let within : i ≤ n = gap_within t n row (sym is) in
      let put : put_row row rows ≡ take i rows ++ row ∷ drop i rows =
      put_absent row rows ascends absent ∙ ap (λ (j : ℕ). take j rows ++ row ∷ drop j rows) (sym at) in
      ⊎_elim
      (λ y. joined y.1 put within)
      (λ z.
      subst (λ (u : Option ℕ). Stored u (upserted t n row) (put_row row rows)) (full_count t n row (sym is) z.1)
      (omega (arith, z.1, h.count, ap length put, length-append (take i rows) (row ∷ drop i rows), ap length (take-append-drop i rows), length-append (take i rows) (drop i rows), ap length (full_words t n row (sym is) z.1))))
      (leb_cases (8 * n + 8) (length t))
    where
      joined : 8 * n + 8 ≤ length t → put_row row rows ≡ take i rows ++ row ∷ drop i rows → i ≤ n
          → Stored (upsert_count t n row) (upserted t n row) (put_row row rows)
      joined fits put within =
          let v : List ℕ = row ++ bytes_at t (8 * i) (8 * (n - i)) in
          let lv : length v ≡ 8 + 8 * (n - i) =
          omega (arith, length-append row (bytes_at t (8 * i) (8 * (n - i))), length_bytes_at t (8 * i) (8 * (n - i)) (omega arith)) in
          let long : length (written t (8 * i) v) ≡ length t = length_written t (8 * i) v (omega arith) in
          subst (λ (u : Option ℕ). Stored u (upserted t n row) (put_row row rows)) (gap_count t n row (sym is) fits)
          (subst (λ (w : List ℕ). Table w (n + 1) (put_row row rows)) (gap_words t n row (sym is) fits)
          (table_of_lem (written t (8 * i) v) (n + 1) (put_row row rows) (omega arith)
          (rows_of_inserted t n i row within fits eight
          ∙ ap (λ (l : List (List ℕ)). take i l ++ row ∷ drop i l) (table_rows h)
          ∙ sym put)
          (behind_inserted t n i row within fits eight
          ∙ behind_more t (8 * n) (8 * (n + 1)) 8 (table_behind h) (omega arith) (omega arith)
          ∙ ap (λ (k : ℕ). zeros (k - 8 * (n + 1))) (sym long))))

  pub upsert_table : Stored (upsert_count t n row) (upserted t n row) (put_row row rows)
  upsert_table = from (place_of (key row) (rows_of n t)) refl
    where
      from : (p : Result ℕ ℕ) → place_of (key row) (rows_of n t) ≡ p → Stored (upsert_count t n row) (upserted t n row) (put_row row rows)
      from (Ok i) is = upsert_at i is
      from (Err i) is = upsert_gap i is
