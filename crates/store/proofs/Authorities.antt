-- The pass over the rows of a store: each key is below the next, and each authority below the committee's size. Assumes nothing.
use mathlib.Core.Path.{◌≡◌, refl, sym, ap, ◌∙◌, subst}
use mathlib.Core.Bool.{Bool, true, false}
use mathlib.Core.List.{List, [], ◌∷◌}
use Prim.Native.Nat.{ℕ, zero, suc, ◌+◌, ◌<◌}
use native.Mathlib.Omega.{arith}
use lib.Dec.{ltb}
use lib.ListN.{length, get_or}
use Rattle.laws.specs.Pick.{pick}
use borrow.Author.Tests.{lt-ltb}
use Rattle.std.specs.List.{IsAllAdjacentAnswer}
use Rattle.std.specs.Ordering.{is_lt}
use Rattle.std.specs.declared.cmp.Ordering.{Ordering}
use Rattle.std.specs.declared.cmp.Ordering.TheVariants.{Less, Equal, Greater}
use Rattle.rows.specs.Rows.{key, compared, choose, leads, ascendingb}
use Rattle.store.specs.Store.{authorities_below}

pick_itself : (t : Bool) → pick t true false ≡ t
unfolding pick
pick_itself true = refl
pick_itself false = refl

pick_never : (t : Bool) → pick t false false ≡ false
unfolding pick
pick_never true = refl
pick_never false = refl

-- both tests, or the one behind the other
both_true : (t u : Bool) → true ≡ pick t u false → (t ≡ true) × (u ≡ true)
unfolding pick
both_true true u e = (refl, sym e)
both_true false u e = absurd (cc)

either_false : (t u v w : Bool) → false ≡ pick t u false → false ≡ pick (pick v t false) (pick w u false) false
unfolding pick
either_false true u true true e = e
either_false true u true false e = refl
either_false true u false w e = refl
either_false false u true w e = refl
either_false false u false w e = refl

lower : (o : Ordering) → is_lt o ≡ true → choose o true false false ≡ true
unfolding choose
lower Less e = refl
lower Equal e = absurd (cc)
lower Greater e = absurd (cc)

not_lower : (o : Ordering) → is_lt o ≡ false → choose o true false false ≡ false
unfolding choose
not_lower Less e = absurd (cc)
not_lower Equal e = refl
not_lower Greater e = refl

one_later : (r : List ℕ) (rows : List (List ℕ)) (k : ℕ) (d : List ℕ) → get_or (r ∷ rows) (suc k + 1) d ≡ get_or rows (k + 1) d
one_later r rows k d = let next : suc k + 1 ≡ suc (k + 1) = omega arith in ap (λ (m : ℕ). get_or (r ∷ rows) m d) next

module _ (size : ℕ) where
  -- what the pass asks of a row and the next
  abbrev pub in_order : List ℕ → List ℕ → Bool
  in_order r next = pick (ltb (get_or next 1 0) size) (is_lt (compared (key r) (key next))) false

  -- whether rows pass both tests
  abbrev pub passes : List (List ℕ) → Bool
  passes rows = pick (ascendingb rows) (authorities_below size rows) false

  pub all_in_order : (r : List ℕ) (rows : List (List ℕ))
      → ((k : ℕ) (d : List ℕ) → k + 1 < length (r ∷ rows) → true ≡ in_order (get_or (r ∷ rows) k d) (get_or (r ∷ rows) (k + 1) d))
      → ltb (get_or r 1 0) size ≡ passes (r ∷ rows)
  unfolding ascendingb leads authorities_below pick
  all_in_order r [] h = sym (pick_itself (ltb (get_or r 1 0) size))
  all_in_order r (s ∷ rest) h =
      let first = both_true (ltb (get_or s 1 0) size) (is_lt (compared (key r) (key s))) (h 0 [] (omega arith)) in
      let behind = both_true (ascendingb (s ∷ rest)) (authorities_below size (s ∷ rest))
      (sym first.0 ∙ all_in_order s rest (λ k d l. h (suc k) d (omega arith) ∙ ap (in_order (get_or (s ∷ rest) k d)) (one_later r (s ∷ rest) k d))) in
      sym (rw (lower (compared (key r) (key s)) first.1, behind.0, behind.1) (pick_itself (ltb (get_or r 1 0) size)))

  first_fails : (t u v w : Bool) (o : Ordering) → false ≡ pick t (is_lt o) false → false ≡ pick (pick (choose o true false false) v false) (pick w (pick t u false) false) false
  unfolding pick choose
  first_fails true u v w Less e = absurd (cc)
  first_fails true u v w Equal e = refl
  first_fails true u v w Greater e = refl
  first_fails false u true true Less e = refl
  first_fails false u true false Less e = refl
  first_fails false u false w Less e = refl
  first_fails false u v w Equal e = refl
  first_fails false u v w Greater e = refl

  pub one_not_in_order : (rows : List (List ℕ)) (k : ℕ) → k + 1 < length rows
      → ((d : List ℕ) → false ≡ in_order (get_or rows k d) (get_or rows (k + 1) d)) → false ≡ passes rows
  unfolding ascendingb leads authorities_below
  one_not_in_order [] k l h = absurd (omega arith)
  one_not_in_order (r ∷ []) k l h = absurd (omega arith)
  one_not_in_order (r ∷ s ∷ rest) zero l h =
      first_fails (ltb (get_or s 1 0) size) (authorities_below size rest) (ascendingb (s ∷ rest)) (ltb (get_or r 1 0) size) (compared (key r) (key s)) (h [])
  one_not_in_order (r ∷ s ∷ rest) (suc k) l h =
      either_false (ascendingb (s ∷ rest)) (authorities_below size (s ∷ rest)) (choose (compared (key r) (key s)) true false false) (ltb (get_or r 1 0) size)
      (one_not_in_order (s ∷ rest) k (omega arith) (λ d. h d ∙ ap (in_order (get_or (s ∷ rest) k d)) (one_later r (s ∷ rest) k d)))

  pub first_not_below : (r : List ℕ) (rows : List (List ℕ)) → ltb (get_or r 1 0) size ≡ false → false ≡ passes (r ∷ rows)
  unfolding authorities_below pick
  first_not_below r rows e = sym (rw e (pick_never (ascendingb (r ∷ rows))))

  pub no_rows_pass : (rows : List (List ℕ)) → length rows ≡ 0 → true ≡ passes rows
  unfolding ascendingb authorities_below pick
  no_rows_pass [] e = refl
  no_rows_pass (r ∷ rows) e = absurd (omega arith)

  -- the pass, by what it answered
  pub pass_answers : (r : List ℕ) (rest rows : List (List ℕ)) → rows ≡ r ∷ rest → get_or r 1 0 < size
      → (b : Bool) → IsAllAdjacentAnswer (λ x y b. b ≡ in_order x y) rows b → b ≡ passes rows
  pass_answers r rest rows is l true h =
      sym (lt-ltb (get_or r 1 0) size l) ∙ all_in_order r rest (λ k d m. subst (λ (xs : List (List ℕ)). true ≡ in_order (get_or xs k d) (get_or xs (k + 1) d)) is (h k d (omega (arith, ap length is)))) ∙ ap passes (sym is)
  pass_answers r rest rows is l false h = one_not_in_order rows h.0 h.1 h.2
