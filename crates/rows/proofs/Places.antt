-- Where a key belongs among ascending rows. Assumes nothing.
use mathlib.Core.Path.{◌≡◌, refl, sym, ap, ◌∙◌, subst}
use mathlib.Core.Bool.{Bool, true, false, true≢false}
use mathlib.Core.List.{List, [], ◌∷◌, ◌++◌}
use mathlib.Core.Logic.{⊎_elim}
use Prim.Native.Nat.{ℕ, suc, ◌+◌, ◌≤◌, ◌<◌}
use native.Mathlib.Nat.{zero-add, suc-add}
use native.Mathlib.Omega.{arith}
use lib.ListN.{length, get_or}
use Rattle.laws.specs.Pick.{pick}
use Rattle.std.specs.declared.cmp.Ordering.TheVariants.{Less, Equal, Greater}
use Rattle.std.specs.Prelude.{Ok, Err}
use Rattle.rows.specs.Rows.{key, choose, compared, Leads, Ascending, below, has_key, place_of}
use Rattle.rows.proofs.Lexicographic.{order_cases, below_trans, below_of, compared_equal}
use Rattle.rows.proofs.Ascending.{leads_trans, leads_none, first_least, ascending_back}

-- Ascending rows with r among them, and where the key of r stands to k.
module _ (k r : List ℕ) (b : List (List ℕ)) where
  -- the rows before r are below k where those below r are
  before_row : (a : List (List ℕ)) → Ascending (a ++ r ∷ b)
      → ((j : List ℕ) → compared j (key r) ≡ Less → compared j k ≡ Less)
      → (below k (a ++ r ∷ b) ≡ length a + below k (r ∷ b)) × (has_key k (a ++ r ∷ b) ≡ has_key k (r ∷ b))
  unfolding below has_key choose
  before_row [] h f = (sym (zero-add (below k (r ∷ b))), refl)
  before_row (x ∷ a) h f =
      let e : compared (key x) k ≡ Less = f (key x) (first_least x a r b h) in
      let n : (below k (a ++ r ∷ b) ≡ length a + below k (r ∷ b)) × (has_key k (a ++ r ∷ b) ≡ has_key k (r ∷ b)) =
      before_row a h.1 f in
      (rw e (ap suc n.0 ∙ sym (suc-add (length a) (below k (r ∷ b)))), rw e n.1)

  module _ (a : List (List ℕ)) (h : Ascending (a ++ r ∷ b)) where
    pub below_row : compared (key r) k ≡ Less
        → (below k (a ++ r ∷ b) ≡ length a + 1 + below k b) × (has_key k (a ++ r ∷ b) ≡ has_key k b)
    unfolding below has_key choose
    below_row l =
        let n : (below k (a ++ r ∷ b) ≡ length a + below k (r ∷ b)) × (has_key k (a ++ r ∷ b) ≡ has_key k (r ∷ b)) =
        before_row a h (λ j g. below_trans j (key r) k g l) in
        let e : below k (r ∷ b) ≡ suc (below k b) = rw l in
        (omega arith, n.1 ∙ rw l)

    pub at_row : compared (key r) k ≡ Equal
        → (below k (a ++ r ∷ b) ≡ length a) × (has_key k (a ++ r ∷ b) ≡ true)
    unfolding below has_key choose
    at_row q =
        let e : key r ≡ k = compared_equal (key r) k q in
        let n : (below k (a ++ r ∷ b) ≡ length a + below k (r ∷ b)) × (has_key k (a ++ r ∷ b) ≡ has_key k (r ∷ b)) =
        before_row a h (λ j g. ap (compared j) (sym e) ∙ g) in
        let o : Ascending (r ∷ b) = ascending_back a (r ∷ b) h in
        let z : below k b ≡ 0 = (leads_none k b (subst (λ (j : List ℕ). Leads j b) e o.0) o.1).0 in
        let y : below k (r ∷ b) ≡ below k b = rw q in
        (omega arith, n.1 ∙ rw q)

  pub above_row : (a : List (List ℕ)) → Ascending (a ++ r ∷ b) → compared (key r) k ≡ Greater
      → (below k (a ++ r ∷ b) ≡ below k a) × (has_key k (a ++ r ∷ b) ≡ has_key k a)
  unfolding below has_key
  above_row [] h g = leads_none k (r ∷ b) (below_of (key r) k g) h
  above_row (x ∷ a) h g =
      let n : (below k (a ++ r ∷ b) ≡ below k a) × (has_key k (a ++ r ∷ b) ≡ has_key k a) = above_row a h.1 g in
      (rw n.0, rw n.1)

-- a key that is present stands at the place of the first key that is not below it
pub present_row : (k : List ℕ) (rows : List (List ℕ)) → Ascending rows → has_key k rows ≡ true
    → (below k rows < length rows) × (key (get_or rows (below k rows) []) ≡ k)
unfolding below has_key choose
present_row k [] h p = absurd (true≢false (sym p))
present_row k (r ∷ rows) h p =
    ⊎_elim
    (λ l.
    let n : (below k rows < length rows) × (key (get_or rows (below k rows) []) ≡ k) = present_row k rows h.1 (rw l at p) in
    rw l (omega arith, n.1))
    (⊎_elim
    (λ q.
    let e : key r ≡ k = compared_equal (key r) k q in
    rw (q, (leads_none k rows (subst (λ (j : List ℕ). Leads j rows) e h.0) h.1).0) (omega arith, e))
    (λ g.
    let none : has_key k rows ≡ false =
    (leads_none k rows (leads_trans k (key r) rows (below_of (key r) k g) h.0) h.1).1 in
    absurd (true≢false (sym (rw g at p) ∙ none))))
    (order_cases (compared (key r) k))

pub below_within : (k : List ℕ) (rows : List (List ℕ)) → below k rows ≤ length rows
unfolding below choose
below_within k [] = omega arith
below_within k (r ∷ rows) =
    let n : below k rows ≤ length rows = below_within k rows in
    ⊎_elim
    (λ l. rw l (omega arith))
    (⊎_elim (λ q. rw q (omega arith)) (λ g. rw g (omega arith)))
    (order_cases (compared (key r) k))

-- what each answer says
pub at_place : (k : List ℕ) (rows : List (List ℕ)) {i : ℕ} → Ok i ≡ place_of k rows → (has_key k rows ≡ true) × (i ≡ below k rows)
unfolding place_of pick
at_place k rows {i} e = picked (has_key k rows) e
  where
    picked : (t : Bool) → Ok i ≡ pick t (Ok (below k rows)) (Err (below k rows)) → (t ≡ true) × (i ≡ below k rows)
    picked true e = (refl, cc)
    picked false e = (cc, cc)

pub gap_place : (k : List ℕ) (rows : List (List ℕ)) {i : ℕ} → Err i ≡ place_of k rows → (has_key k rows ≡ false) × (i ≡ below k rows)
unfolding place_of pick
gap_place k rows {i} e = picked (has_key k rows) e
  where
    picked : (t : Bool) → Err i ≡ pick t (Ok (below k rows)) (Err (below k rows)) → (t ≡ false) × (i ≡ below k rows)
    picked true e = (cc, cc)
    picked false e = (refl, cc)
