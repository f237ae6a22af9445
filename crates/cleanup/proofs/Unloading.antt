-- The loop that unloads the rows up to round t, at row i. What is left to do is what cleanup does to the rows as they are now, since
-- unloading a row twice is unloading it once. Assumes nothing.
use mathlib.Core.Path.{◌≡◌, refl, sym, ap, ◌∙◌, subst}
use mathlib.Core.List.{List, [], ◌∷◌, ◌++◌, map}
use mathlib.Core.Logic.{⊎_elim}
use Prim.Native.Nat.{ℕ, zero, suc, ◌+◌, ◌*◌, ◌≤◌, ◌<◌}
use native.Mathlib.Nat.{zero-add}
use native.Mathlib.Omega.{arith}
use lib.ListN.{length, take, drop, set, get_or, length-set, take-append-drop}
use lib.Seq.{get_or-set_same, get_or-set_other, set-get_or, set-set, map-set_same, take-set-le, drop-set-lt, length-take-le}
use borrow.Author.Tests.{le-leb, lt-leb, eq-eqb, ne_eqb}
use Rattle.laws.specs.Bytes.{bytes_at, written}
use Rattle.laws.specs.Pick.{pick}
use Rattle.laws.proofs.Tests.{leb_cases, eqb_cases}
use Rattle.laws.proofs.Written.{length_bytes_at}
use Rattle.rows.specs.Rows.{rows_of, row_at, flat, key, Ascending}
use Rattle.tables.specs.Tables.{EightWords}
use Rattle.rows.proofs.Ascending.{ascending_back, ascending_replaced}
use Rattle.rows.proofs.Rows.{length_rows_of, length_row_at, first_row_at, rows_of_same, rows_of_put, get_or_rows_of, flat_rows_of, rows_from, rows_from_zero, rows_from_cons, rows_from_add}
use Rattle.store.specs.Store.{loaded}
use Rattle.cleanup.specs.Cleanup.{unload, unloads}
use Rattle.store.proofs.Rounds.{Past, past}
use Rattle.store.proofs.Words.{word_row_at, rows_of_next, rows_from_eights, stored_in}

-- ---- One row

-- the last word of a row stored, in the table and in the rows
rows_stored : (w : List ℕ) (count i : ℕ) → 8 * count ≤ length w → i < count
    → rows_of count (set w (8 * i + 7) 0) ≡ set (rows_of count w) i (set (row_at w i) 7 0)
unfolding row_at
rows_stored w count i l more =
    ap (rows_of count) (stored_in w (8 * i) 8 7 0 (omega arith) (omega arith))
    ∙ rows_of_put w count i (set (bytes_at w (8 * i) 8) 7 0)
    (length-set (bytes_at w (8 * i) 8) 7 0 ∙ length_bytes_at w (8 * i) 8 (omega arith)) more l

key_kept : (r : List ℕ) → key (set r 7 0) ≡ key r
unfolding key
key_kept r = take-set-le 6 r 7 0 (omega arith)

module _ (t : ℕ) where
  unload_early : (r : List ℕ) → get_or r 0 0 ≤ t → unload t r ≡ set r 7 0
  unfolding unload pick
  unload_early r h = rw (le-leb (get_or r 0 0) t h)

  unload_late : (r : List ℕ) → t < get_or r 0 0 → unload t r ≡ r
  unfolding unload pick
  unload_late r h = rw (lt-leb (get_or r 0 0) t h)

  unload_twice : (r : List ℕ) → get_or r 0 0 ≤ t → unload t (set r 7 0) ≡ unload t r
  unload_twice r h =
      unload_early (set r 7 0) (omega (arith, get_or-set_other r 7 0 0 0 (λ e. omega arith)))
      ∙ set-set r 7 0 0
      ∙ sym (unload_early r h)

  -- ---- Rows of which nothing is left to unload

  abbrev Unloaded : List (List ℕ) → Type 0
  Unloaded [] = Unit
  Unloaded (r ∷ rows) = (get_or r 0 0 ≤ t → get_or r 7 0 ≡ 0) × Unloaded rows

  unloaded_append : (a b : List (List ℕ)) → Unloaded a → Unloaded b → Unloaded (a ++ b)
  unloaded_append [] b h k = k
  unloaded_append (r ∷ a) b h k = (h.0, unloaded_append a b h.1 k)

  unloaded_past : (rows : List (List ℕ)) → Past t rows → Unloaded rows
  unloaded_past [] p = tt
  unloaded_past (r ∷ rows) p = ((λ h. absurd (omega (arith, p.0))), unloaded_past rows p.1)

  unloaded_same : (rows : List (List ℕ)) → Unloaded rows → map (unload t) rows ≡ rows
  unloaded_same [] h = refl
  unloaded_same (r ∷ rows) h =
      let here : unload t r ≡ r =
      ⊎_elim
      (λ e. unload_early r e.1 ∙ ap (set r 7) (sym (h.0 e.1)) ∙ set-get_or r 7 0)
      (λ l. unload_late r l.1)
      (leb_cases (get_or r 0 0) t) in
      λ i. here i ∷ unloaded_same rows h.1 i

  unloaded_none : (rows : List (List ℕ)) → Unloaded rows → unloads t rows ≡ 0
  unfolding unloads loaded pick
  unloaded_none [] h = refl
  unloaded_none (r ∷ rows) h =
      ⊎_elim
      (λ e. rw (e.0, eq-eqb (get_or r 7 0) 0 (h.0 e.1)) (unloaded_none rows h.1))
      (λ l. rw l.0 (unloaded_none rows h.1))
      (leb_cases (get_or r 0 0) t)

  -- one loaded row less
  unloads_set : (rows : List (List ℕ)) (i : ℕ) → i < length rows → get_or (get_or rows i []) 0 0 ≤ t → 7 < length (get_or rows i [])
      → (get_or (get_or rows i []) 7 0 ≡ 0 → ⊥)
      → unloads t rows ≡ suc (unloads t (set rows i (set (get_or rows i []) 7 0)))
  unfolding unloads loaded pick
  unloads_set [] i h e l n = absurd (omega arith)
  unloads_set (r ∷ rows) zero h e l n =
      rw (le-leb (get_or r 0 0) t e, ne_eqb (get_or r 7 0) 0 n, get_or-set_other r 7 0 0 0 (λ q. omega arith), le-leb (get_or r 0 0) t e, eq-eqb (get_or (set r 7 0) 7 0) 0 (get_or-set_same r 7 0 0 l))
  unloads_set (r ∷ rows) (suc i) h e l n =
      let rest : unloads t rows ≡ suc (unloads t (set rows i (set (get_or rows i []) 7 0))) = unloads_set rows i (omega arith) e l n in
      ⊎_elim
      (λ a.
      ⊎_elim
      (λ z. rw (a.0, z.0) rest)
      (λ m. rw (a.0, m.0) (ap suc rest))
      (eqb_cases (get_or r 7 0) 0))
      (λ b. rw b.0 rest)
      (leb_cases (get_or r 0 0) t)

  -- ---- The loop

  -- w is w₀ with the rows before row i unloaded, of which n were loaded
  pub record Clearing (w₀ : List ℕ) (count : ℕ) (w : List ℕ) (n i : ℕ) : Type 0 where
    pub within : i ≤ count
    pub few : n ≤ i
    pub as_long : length w ≡ length w₀
    pub behind : drop (8 * count) w ≡ drop (8 * count) w₀
    pub ascends : Ascending (rows_of count w)
    pub counted : unloads t (rows_of count w₀) ≡ n + unloads t (rows_of count w)
    pub same : map (unload t) (rows_of count w) ≡ map (unload t) (rows_of count w₀)
    pub so_far : Unloaded (rows_of i w)

  pub clearing_start : (w : List ℕ) (count : ℕ) → Ascending (rows_of count w) → Clearing w count w 0 0
  unfolding rows_of
  clearing_start w count a =
      record {
        within = omega arith;
        few = omega arith;
        as_long = refl;
        behind = refl;
        ascends = a;
        counted = sym (zero-add (unloads t (rows_of count w)));
        same = refl;
        so_far = tt;
      }

  -- one row more
  row_more : (w : List ℕ) (i : ℕ) → Unloaded (rows_of i w) → (get_or w (8 * i) 0 ≤ t → get_or w (8 * i + 7) 0 ≡ 0) → Unloaded (rows_of (i + 1) w)
  row_more w i h e =
      subst Unloaded (sym (rows_of_next w i))
      (unloaded_append (rows_of i w) (row_at w i ∷ []) h ((λ l. word_row_at w i 7 (omega arith) ∙ e (omega (arith, first_row_at w i))), tt))

  module _ {w₀ : List ℕ} {count : ℕ} {w : List ℕ} {n i : ℕ} (h : Clearing w₀ count w n i) (fits : 8 * count ≤ length w₀) where
    pub clearing_passed : i < count → get_or w (8 * i + 7) 0 ≡ 0 → Clearing w₀ count w n (i + 1)
    clearing_passed more zero-there =
        record {
          within = omega arith;
          few = omega (arith, h.few);
          as_long = h.as_long;
          behind = h.behind;
          ascends = h.ascends;
          counted = h.counted;
          same = h.same;
          so_far = row_more w i h.so_far (λ l. zero-there);
        }

    pub clearing_next : i < count → get_or w (8 * i) 0 ≤ t → (get_or w (8 * i + 7) 0 ≡ 0 → ⊥)
        → Clearing w₀ count (set w (8 * i + 7) 0) (n + 1) (i + 1)
    clearing_next more early there =
        let l : 8 * count ≤ length w = omega (arith, h.as_long) in
        let r : List ℕ = row_at w i in
        let rows : List (List ℕ) = rows_of count w in
        let eight : length r ≡ 8 = length_row_at w i (omega arith) in
        let at : get_or rows i [] ≡ r = get_or_rows_of w i count more in
        let rows_are : rows_of count (set w (8 * i + 7) 0) ≡ set rows i (set r 7 0) = rows_stored w count i l more in
        let r_early : get_or r 0 0 ≤ t = omega (arith, first_row_at w i) in
        let count_is : unloads t rows ≡ suc (unloads t (set rows i (set r 7 0))) =
        subst
        (λ (x : List ℕ). get_or x 0 0 ≤ t → 7 < length x → (get_or x 7 0 ≡ 0 → ⊥) → unloads t rows ≡ suc (unloads t (set rows i (set x 7 0))))
        at
        (unloads_set rows i (omega (arith, length_rows_of count w)))
        r_early
        (omega arith)
        (λ z. there (sym (word_row_at w i 7 (omega arith)) ∙ z)) in
        record {
          within = omega arith;
          few = omega (arith, h.few);
          as_long = length-set w (8 * i + 7) 0 ∙ h.as_long;
          behind = drop-set-lt (8 * count) w (8 * i + 7) 0 (omega arith) ∙ h.behind;
          ascends =
              subst Ascending (sym rows_are)
              (ascending_replaced (set r 7 0) i rows (key_kept r ∙ ap key (sym at)) h.ascends);
          counted = omega (arith, h.counted, count_is, ap (unloads t) rows_are);
          same =
              ap (map (unload t)) rows_are
              ∙ map-set_same (unload t) rows i (set r 7 0) [] (unload_twice r r_early ∙ ap (unload t) (sym at))
              ∙ h.same;
          so_far =
              row_more (set w (8 * i + 7) 0) i
              (subst Unloaded (sym (rows_of_same i (set w (8 * i + 7) 0) w (take-set-le (8 * i) w (8 * i + 7) 0 (omega arith)))) h.so_far)
              (λ q. get_or-set_same w (8 * i + 7) 0 0 (omega arith));
        }

    -- nothing is left to do: every row is unloaded, or past t
    module _ (all : Unloaded (rows_of count w)) where
      pub all_counted : n ≡ unloads t (rows_of count w₀)
      all_counted = omega (arith, h.counted, unloaded_none (rows_of count w) all)

      pub all_written : w ≡ written w₀ 0 (flat (map (unload t) (rows_of count w₀)))
      unfolding written
      all_written =
          let l : 8 * count ≤ length w = omega (arith, h.as_long) in
          let words : flat (map (unload t) (rows_of count w₀)) ≡ take (8 * count) w =
          ap flat (sym h.same ∙ unloaded_same (rows_of count w) all) ∙ flat_rows_of count w in
          let long : 0 + length (take (8 * count) w) ≡ 8 * count = omega (arith, length-take-le (8 * count) w l) in
          sym (
          ap (λ (v : List ℕ). v ++ drop (0 + length v) w₀) words
          ∙ ap (λ (k : ℕ). take (8 * count) w ++ drop k w₀) long
          ∙ ap (λ (v : List ℕ). take (8 * count) w ++ v) (sym h.behind)
          ∙ take-append-drop (8 * count) w
          )

    parts : rows_of count w ≡ rows_of i w ++ rows_from w i count
    parts =
        sym (rows_from_zero w count)
        ∙ rows_from_add w 0 i count (omega arith) h.within
        ∙ ap (λ (l : List (List ℕ)). l ++ rows_from w i count) (rows_from_zero w i)

    pub clearing_stopped : i < count → t < get_or w (8 * i) 0 → Unloaded (rows_of count w)
    clearing_stopped more late =
        let l : 8 * count ≤ length w = omega (arith, h.as_long) in
        let rest : rows_from w i count ≡ row_at w i ∷ rows_from w (i + 1) count = rows_from_cons w i count more in
        let up : Ascending (row_at w i ∷ rows_from w (i + 1) count) =
        subst Ascending rest (ascending_back (rows_of i w) (rows_from w i count) (subst Ascending parts h.ascends)) in
        subst Unloaded (sym parts)
        (unloaded_append (rows_of i w) (rows_from w i count) h.so_far
        (subst Unloaded (sym rest)
        (unloaded_past (row_at w i ∷ rows_from w (i + 1) count)
        (past t (row_at w i) (rows_from w (i + 1) count) (omega (arith, first_row_at w i)) (subst EightWords rest (rows_from_eights w i count l h.within)) up))))

    pub clearing_done : count ≤ i → Unloaded (rows_of count w)
    clearing_done all = let e : i ≡ count = omega (arith, h.within) in subst (λ (k : ℕ). Unloaded (rows_of k w)) e h.so_far
