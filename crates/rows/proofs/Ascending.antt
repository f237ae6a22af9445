-- Rows in ascending order of their keys, and what keeps them so. Assumes nothing.
use mathlib.Core.Path.{◌≡◌, refl, sym, ap, ◌∙◌, subst}
use mathlib.Core.Bool.{Bool, true, false, true≢false}
use mathlib.Core.List.{List, [], ◌∷◌, ◌++◌}
use mathlib.Core.Logic.{⊎_elim, ◌↔◌}
use Prim.Native.Nat.{ℕ, zero, suc}
use lib.ListN.{take, drop, set, get_or}
use Rattle.laws.specs.Pick.{pick}
use Rattle.std.specs.declared.cmp.Ordering.TheVariants.{Less, Greater}
use Rattle.rows.specs.Rows.{key, choose, compared, Leads, Ascending, leads, ascendingb, below, has_key}
use Rattle.rows.proofs.Lexicographic.{order_cases, below_trans, above_of, below_of}

-- the test decides
leads_true : (k : List ℕ) (rows : List (List ℕ)) → leads k rows ≡ true → Leads k rows
unfolding leads choose
leads_true k [] e = tt
leads_true k (r ∷ rows) e =
    ⊎_elim
    (λ b. b)
    (⊎_elim (λ q. absurd (true≢false (sym (rw q at e)))) (λ a. absurd (true≢false (sym (rw a at e)))))
    (order_cases (compared k (key r)))

true_leads : (k : List ℕ) (rows : List (List ℕ)) → Leads k rows → leads k rows ≡ true
unfolding leads choose
true_leads k [] l = refl
true_leads k (r ∷ rows) l = rw l

pick_true : (t : Bool) {u : Bool} → pick t u false ≡ true → (t ≡ true) × (u ≡ true)
unfolding pick
pick_true true e = (refl, e)
pick_true false e = absurd (true≢false (sym e))

ascendingb_true : (rows : List (List ℕ)) → ascendingb rows ≡ true → Ascending rows
unfolding ascendingb
ascendingb_true [] e = tt
ascendingb_true (r ∷ rows) e =
    let b : (leads (key r) rows ≡ true) × (ascendingb rows ≡ true) = pick_true (leads (key r) rows) e in
    (leads_true (key r) rows b.0, ascendingb_true rows b.1)

true_ascendingb : (rows : List (List ℕ)) → Ascending rows → ascendingb rows ≡ true
unfolding ascendingb pick
true_ascendingb [] a = refl
true_ascendingb (r ∷ rows) a = rw (true_leads (key r) rows a.0) (true_ascendingb rows a.1)

pub ascendingb_decides : (rows : List (List ℕ)) → (ascendingb rows ≡ true) ↔ Ascending rows
ascendingb_decides rows = (ascendingb_true rows, true_ascendingb rows)

-- a key below the one that leads leads too
pub leads_trans : (j k : List ℕ) (rows : List (List ℕ)) → compared j k ≡ Less → Leads k rows → Leads j rows
leads_trans j k [] h l = tt
leads_trans j k (r ∷ rows) h l = below_trans j k (key r) h l

-- none of ascending rows has a key that is not above one that leads
pub leads_none : (k : List ℕ) (rows : List (List ℕ)) → Leads k rows → Ascending rows
    → (below k rows ≡ 0) × (has_key k rows ≡ false)
unfolding below has_key choose
leads_none k [] l a = (refl, refl)
leads_none k (r ∷ rows) l a =
    let e : compared (key r) k ≡ Greater = above_of k (key r) l in
    let n : (below k rows ≡ 0) × (has_key k rows ≡ false) = leads_none k rows (leads_trans k (key r) rows l a.0) a.1 in
    (rw e n.0, rw e n.1)

-- the first key is below each later one
pub first_least : (r : List ℕ) (a : List (List ℕ)) (s : List ℕ) (b : List (List ℕ)) → Ascending (r ∷ (a ++ s ∷ b))
    → compared (key r) (key s) ≡ Less
first_least r [] s b h = h.0
first_least r (x ∷ a) s b h = below_trans (key r) (key x) (key s) h.0 (first_least x a s b h.1)

pub ascending_front : (a b : List (List ℕ)) → Ascending (a ++ b) → Ascending a
ascending_front [] b h = tt
ascending_front (r ∷ []) b h = (tt, tt)
ascending_front (r ∷ s ∷ a) b h = (h.0, ascending_front (s ∷ a) b h.1)

pub ascending_back : (a b : List (List ℕ)) → Ascending (a ++ b) → Ascending b
ascending_back [] b h = h
ascending_back (r ∷ a) b h = ascending_back a b h.1

-- a row inserted before the keys that are not below its own, which is none of theirs
module _ (row : List ℕ) where
  leads_inserted : (k : List ℕ) (i : ℕ) (rows : List (List ℕ)) → Leads k rows → compared k (key row) ≡ Less
      → Leads k (take i rows ++ row ∷ drop i rows)
  leads_inserted k zero rows l h = h
  leads_inserted k (suc i) [] l h = h
  leads_inserted k (suc i) (r ∷ rows) l h = l

  pub ascending_inserted : (rows : List (List ℕ)) → Ascending rows → has_key (key row) rows ≡ false
      → Ascending (take (below (key row) rows) rows ++ row ∷ drop (below (key row) rows) rows)
  unfolding below has_key choose
  ascending_inserted [] h p = (tt, tt)
  ascending_inserted (r ∷ rows) h p =
      ⊎_elim
      (λ b. rw b (leads_inserted (key r) (below (key row) rows) rows h.0 b, ascending_inserted rows h.1 (rw b at p)))
      (⊎_elim
      (λ e. absurd (true≢false (rw e at p)))
      (λ a.
      let l : compared (key row) (key r) ≡ Less = below_of (key r) (key row) a in
      rw (a, (leads_none (key row) rows (leads_trans (key row) (key r) rows l h.0) h.1).0) (l, h)))
      (order_cases (compared (key r) (key row)))

-- a row replaced by one with the same key
module _ (row : List ℕ) where
  leads_replaced : (k : List ℕ) (i : ℕ) (rows : List (List ℕ)) → key row ≡ key (get_or rows i []) → Leads k rows
      → Leads k (set rows i row)
  leads_replaced k i [] e l = tt
  leads_replaced k zero (r ∷ rows) e l = ap (compared k) e ∙ l
  leads_replaced k (suc i) (r ∷ rows) e l = l

  pub ascending_replaced : (i : ℕ) (rows : List (List ℕ)) → key row ≡ key (get_or rows i []) → Ascending rows → Ascending (set rows i row)
  ascending_replaced i [] e h = tt
  ascending_replaced zero (r ∷ rows) e h = (subst (λ (k : List ℕ). Leads k rows) (sym e) h.0, h.1)
  ascending_replaced (suc i) (r ∷ rows) e h = (leads_replaced (key r) i rows e h.0, ascending_replaced i rows e h.1)
