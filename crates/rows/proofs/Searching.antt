-- A key looked for among ascending rows: the last row first, and then the others by halves. Assumes nothing.
use mathlib.Core.Path.{◌≡◌, refl, ap, ◌∙◌}
use mathlib.Core.Bool.{true, false}
use mathlib.Core.List.{List, [], ◌∷◌, ◌++◌}
use mathlib.Core.Logic.{⊎_elim}
use Prim.Native.Nat.{ℕ, zero, suc, ◌≤◌, ◌<◌}
use native.Mathlib.Omega.{arith}
use lib.ListN.{length, get_or, take, drop, length-append}
use lib.Seq.{split_at, length-take-le}
use Rattle.std.specs.Prelude.{Result, Ok, Err}
use Rattle.std.specs.List.Sorted.{IsBinarySearchResult, IsSearchInRange, IsNonDecreasingBy}
use Rattle.std.specs.Ordering.{ordering_index}
use Rattle.std.specs.declared.cmp.Ordering.{Ordering}
use Rattle.std.specs.declared.cmp.Ordering.TheVariants.{Less, Equal, Greater}
use Rattle.laws.specs.Pick.{pick}
use Rattle.rows.specs.Rows.{key, choose, compared, Ascending, Leads, below, has_key, place_of}
use Rattle.rows.proofs.Lexicographic.{order_cases, below_trans, compared_equal}
use Rattle.rows.proofs.Ascending.{leads_trans, ascending_front}
use Rattle.rows.proofs.Places.{below_row, at_row, above_row}

module _ (k : List ℕ) where
  module _ (rows : List (List ℕ)) {i : ℕ} (at : below k rows ≡ i) where
    found : has_key k rows ≡ true → Ok i ≡ place_of k rows
    unfolding place_of pick
    found p = rw (p, at)

    missed : has_key k rows ≡ false → Err i ≡ place_of k rows
    unfolding place_of pick
    missed p = rw (p, at)

  pub no_row_lem : (rows : List (List ℕ)) → length rows ≡ 0 → Err 0 ≡ place_of k rows
  unfolding below has_key
  no_row_lem [] e = missed [] refl refl
  no_row_lem (r ∷ rows) e = absurd (omega arith)

  -- the last row looked at first
  module _ (rows before : List (List ℕ)) (last : List ℕ) (is : rows ≡ before ++ last ∷ []) (h : Ascending rows) where
    split : Ascending (before ++ last ∷ [])
    split = rw is at h

    pub last_below : compared (key last) k ≡ Less → Err (length rows) ≡ place_of k rows
    unfolding below has_key
    last_below l =
        let r = below_row k last [] before split l in
        missed rows (omega (arith, r.0, ap (below k) is, ap length is, length-append before (last ∷ []))) (ap (has_key k) is ∙ r.1)

    pub last_at : compared (key last) k ≡ Equal → Ok (length before) ≡ place_of k rows
    last_at q =
        let r = at_row k last [] before split q in
        found rows (ap (below k) is ∙ r.0) (ap (has_key k) is ∙ r.1)

    pub last_above : compared (key last) k ≡ Greater → Ascending before × (place_of k before ≡ place_of k rows)
    unfolding place_of
    last_above g =
        let r = above_row k last [] before split g in
        (ascending_front before (last ∷ []) split, rw (is, r.0, r.1))

  -- a key further on stands no lower to k
  later : (j : List ℕ) (rows : List (List ℕ)) (i : ℕ) (d : List ℕ) → Leads j rows → Ascending rows → i < length rows
      → compared j (key (get_or rows i d)) ≡ Less
  later j [] i d l h b = absurd (omega arith)
  later j (r ∷ rows) zero d l h b = l
  later j (r ∷ rows) (suc i) d l h b = later j rows i d (leads_trans j (key r) rows l h.0) h.1 (omega arith)

  at_most : (o : Ordering) → ordering_index o ≤ 2
  at_most Less = omega arith
  at_most Equal = omega arith
  at_most Greater = omega arith

  no_lower : (a b : List ℕ) → compared a b ≡ Less → ordering_index (compared a k) ≤ ordering_index (compared b k)
  no_lower a b l =
      ⊎_elim
      (λ m. rw (m, below_trans a b k l m) (omega arith))
      (⊎_elim
      (λ q. let m : compared a k ≡ Less = rw (compared_equal b k q) at l in rw (q, m) (omega arith))
      (λ g. rw g (at_most (compared a k))))
      (order_cases (compared b k))

  rising : (rows : List (List ℕ)) → Ascending rows → IsNonDecreasingBy (λ r. ordering_index (compared (key r) k)) rows
  rising [] h i j d o b = absurd (omega arith)
  rising (r ∷ rows) h zero zero d o b = omega arith
  rising (r ∷ rows) h zero (suc j) d o b = no_lower (key r) (key (get_or rows j d)) (later (key r) rows j d h.0 h.1 (omega arith))
  rising (r ∷ rows) h (suc i) zero d o b = absurd (omega arith)
  rising (r ∷ rows) h (suc i) (suc j) d o b = rising rows h.1 i j d (omega arith) (omega arith)

  -- the rows up to row i are below k, and the others above
  parted : (rows : List (List ℕ)) (i : ℕ) → i ≤ length rows
      → ((j : ℕ) (d : List ℕ) → 0 ≤ j → j < i → compared (key (get_or rows j d)) k ≡ Less)
      → ((j : ℕ) (d : List ℕ) → i ≤ j → j < length rows → compared (key (get_or rows j d)) k ≡ Greater)
      → (below k rows ≡ i) × (has_key k rows ≡ false)
  unfolding below has_key choose
  parted [] i b low high = (omega arith, refl)
  parted (r ∷ rows) zero b low high =
      let g : compared (key r) k ≡ Greater = high 0 [] (omega arith) (omega arith) in
      rw g (parted rows 0 (omega arith) (λ j d o l. absurd (omega arith)) (λ j d o l. high (suc j) d (omega arith) (omega arith)))
  parted (r ∷ rows) (suc i) b low high =
      let l : compared (key r) k ≡ Less = low 0 [] (omega arith) (omega arith) in
      let n : (below k rows ≡ i) × (has_key k rows ≡ false) =
      parted rows i (omega arith) (λ j d o m. low (suc j) d (omega arith) (omega arith)) (λ j d o m. high (suc j) d (omega arith) (omega arith)) in
      rw l (omega arith, n.1)

  -- what std's search by halves answers
  pub searched : (rows : List (List ℕ)) (r : Result ℕ ℕ) → Ascending rows → IsSearchInRange r (length rows)
      → IsBinarySearchResult (λ row. compared (key row) k) rows r → r ≡ place_of k rows
  searched rows (Ok i) h b s =
      let e = split_at rows i [] b in
      let r = at_row k (get_or rows i []) (drop (suc i) rows) (take i rows) (rw e at h) (s []) in
      found rows (ap (below k) e ∙ r.0 ∙ length-take-le i rows (omega arith)) (ap (has_key k) e ∙ r.1)
  searched rows (Err i) h b s =
      let p = s (rising rows h) in
      let n = parted rows i b p.0 p.1 in
      missed rows n.0 n.1
