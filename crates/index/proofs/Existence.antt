-- Whether ascending rows have one of a round and an authority, read at the place of its lowest digest. Assumes nothing.
use mathlib.Core.Path.{◌≡◌, refl, sym, ap, ◌∙◌}
use mathlib.Core.Bool.{Bool, true, false}
use mathlib.Core.List.{List, [], ◌∷◌, ◌++◌}
use mathlib.Core.Logic.{⊎_elim}
use Prim.Native.Nat.{ℕ, zero, suc, ◌≤◌, ◌<◌}
use native.Mathlib.Omega.{arith}
use lib.Dec.{ltb, eqb}
use lib.ListN.{length, take, drop, get_or, length-drop, drop_of_length-le}
use lib.Seq.{take-add, drop-cons, length-take-le}
use borrow.Author.Tests.{lt-ltb, le-ltb, eq-eqb}
use Rattle.laws.specs.Bytes.{zeros}
use Rattle.laws.specs.Pick.{pick}
use Rattle.laws.proofs.Tests.{leb_cases, eqb_cases}
use Rattle.std.specs.declared.cmp.Ordering.TheVariants.{Less, Greater}
use Rattle.std.specs.Prelude.{Ok, Err}
use Rattle.rows.specs.Rows.{key, choose, compared, Leads, Ascending, below, has_key, place_of}
use Rattle.tables.specs.Tables.{EightWords}
use Rattle.rows.proofs.Lexicographic.{order_cases, not_equal, not_above, above_not_equal, first_above, first_same, compared_self, compared_equal, below_of, below_trans, irreflexive}
use Rattle.rows.proofs.Ascending.{leads_trans, leads_none}
use Rattle.rows.proofs.Places.{at_place, gap_place}
use Rattle.tables.proofs.Tables.{eights_told}
use Rattle.index.specs.Keys.{exists_at}
use Rattle.index.proofs.Prefixes.{compared_append}

-- nothing of n words is below n zeros
least : (n : ℕ) (t : List ℕ) → length t ≡ n → compared t (zeros n) ≡ Less → ⊥
unfolding zeros compared
least zero [] e h = not_equal (sym h)
least zero (x ∷ t) e h = absurd (omega arith)
least (suc n) [] e h = absurd (omega arith)
least (suc n) (x ∷ t) e h =
    ⊎_elim
    (λ p. not_above (sym h ∙ first_above x 0 t (zeros n) p.1))
    (λ z. least n t (omega arith) (sym (first_same x 0 t (zeros n) (omega arith)) ∙ h))
    (leb_cases 1 x)

-- a key in two parts: round and authority, and the digest's words
key_parts : (r : List ℕ) → key r ≡ take 2 r ++ take 4 (drop 2 r)
unfolding key
key_parts r = take-add 2 4 r

compared_parts : (r s : List ℕ) → 2 ≤ length r → 2 ≤ length s
    → compared (key r) (key s)
    ≡ choose (compared (take 2 r) (take 2 s)) Less (compared (take 4 (drop 2 r)) (take 4 (drop 2 s))) Greater
compared_parts r s h k =
    rw (key_parts r, key_parts s)
    (compared_append (take 2 r) (take 2 s) (take 4 (drop 2 r)) (take 4 (drop 2 s)) (length-take-le 2 r h ∙ sym (length-take-le 2 s k)))

module _ (authority round : ℕ) where
  -- how such a row begins
  abbrev wanted : List ℕ
  wanted = round ∷ authority ∷ []

  -- the lowest key that begins so
  abbrev pub lowest : List ℕ
  lowest = round ∷ authority ∷ 0 ∷ 0 ∷ 0 ∷ 0 ∷ []

  -- whether a row begins so
  abbrev has : List ℕ → Bool
  has r = pick (eqb (get_or r 0 0) round) (eqb (get_or r 1 0) authority) false

  -- whether the first of the rows, if there is one, does
  abbrev first_has : List (List ℕ) → Bool
  first_has [] = false
  first_has (r ∷ rows) = has r

  has_same : (r : List ℕ) → 2 ≤ length r → take 2 r ≡ wanted → has r ≡ true
  unfolding pick
  has_same [] h e = absurd (omega arith)
  has_same (a ∷ []) h e = absurd (omega arith)
  has_same (a ∷ b ∷ r) h e = rw (eq-eqb a round (cc), eq-eqb b authority (cc))

  has_other : (r : List ℕ) → 2 ≤ length r → (take 2 r ≡ wanted → ⊥) → has r ≡ false
  unfolding pick
  has_other [] h n = absurd (omega arith)
  has_other (a ∷ []) h n = absurd (omega arith)
  has_other (a ∷ b ∷ r) h n =
      ⊎_elim
      (λ t.
      ⊎_elim
      (λ u. absurd (n (λ i. t.1 i ∷ u.1 i ∷ [])))
      (λ f. rw (t.0, f.0))
      (eqb_cases b authority))
      (λ f. rw f.0)
      (eqb_cases a round)

  exists_none : exists_at authority round [] ≡ false
  unfolding exists_at
  exists_none = refl

  exists_cons : (r : List ℕ) (rows : List (List ℕ)) → exists_at authority round (r ∷ rows) ≡ pick (has r) true (exists_at authority round rows)
  unfolding exists_at pick
  exists_cons r rows = go (eqb (get_or r 0 0) round) (eqb (get_or r 1 0) authority) (exists_at authority round rows)
    where
      go : (t u x : Bool) → pick u (pick t true x) x ≡ pick (pick t u false) true x
      go true true x = refl
      go true false x = refl
      go false true x = refl
      go false false x = refl

  -- a row behind one that begins above
  none_behind : (r : List ℕ) (rows : List (List ℕ)) → 2 ≤ length r → Leads (key r) rows → Ascending rows → EightWords rows
      → compared wanted (take 2 r) ≡ Less → exists_at authority round rows ≡ false
  unfolding exists_at pick choose
  none_behind r [] h l a e p = refl
  none_behind r (s ∷ rows) h l a e p =
      let long : 2 ≤ length s = omega (arith, e.0) in
      let q : compared wanted (take 2 s) ≡ Less =
      ⊎_elim
      (λ b. below_trans wanted (take 2 r) (take 2 s) p b)
      (⊎_elim
      (λ same. ap (compared wanted) (sym (compared_equal (take 2 r) (take 2 s) same)) ∙ p)
      (λ g. absurd (not_above (sym l ∙ compared_parts r s h long ∙ rw g))))
      (order_cases (compared (take 2 r) (take 2 s))) in
      exists_cons s rows
      ∙ rw (has_other s long (λ same. irreflexive wanted (rw same at q)), none_behind s rows long a.0 a.1 e.1 q)

  module _ (r : List ℕ) (rows : List (List ℕ)) (long : 6 ≤ length r) (e : EightWords rows) (a : Ascending (r ∷ rows)) where
    against : compared (key r) lowest ≡ choose (compared (take 2 r) wanted) Less (compared (take 4 (drop 2 r)) (zeros 4)) Greater
    unfolding zeros
    against =
        ap (λ (l : List ℕ). compared l lowest) (key_parts r)
        ∙ compared_append (take 2 r) wanted (take 4 (drop 2 r)) (zeros 4) (length-take-le 2 r (omega arith))

    at_front : compared (key r) lowest ≡ Greater
        → pick (has_key lowest (r ∷ rows)) true (first_has (drop (below lowest (r ∷ rows)) (r ∷ rows))) ≡ has r
    unfolding below has_key choose pick
    at_front g =
        let none = leads_none lowest rows (leads_trans lowest (key r) rows (below_of (key r) lowest g) a.0) a.1 in
        rw (g, none.0, none.1) refl

  pub exists_place : (rows : List (List ℕ)) → EightWords rows → Ascending rows
      → exists_at authority round rows ≡ pick (has_key lowest rows) true (first_has (drop (below lowest rows) rows))
  unfolding below has_key choose pick
  exists_place [] e a = exists_none
  exists_place (r ∷ rows) e a =
      let two : 2 ≤ length r = omega (arith, e.0) in
      let key_is = against r rows (omega (arith, e.0)) e.1 a in
      let front = at_front r rows (omega (arith, e.0)) e.1 a in
      ⊎_elim
      (λ b.
      let is : compared (key r) lowest ≡ Less = key_is ∙ rw b in
      exists_cons r rows
      ∙ rw (has_other r two (λ same. irreflexive wanted (rw same at b)), is) (exists_place rows e.1 a.1))
      (⊎_elim
      (λ q.
      let same : take 2 r ≡ wanted = compared_equal (take 2 r) wanted q in
      let rest : compared (key r) lowest ≡ compared (take 4 (drop 2 r)) (zeros 4) = key_is ∙ rw q in
      let four : length (take 4 (drop 2 r)) ≡ 4 = length-take-le 4 (drop 2 r) (simp length-drop (omega (arith, e.0))) in
      ⊎_elim
      (λ b. absurd (least 4 (take 4 (drop 2 r)) four (sym rest ∙ b)))
      (⊎_elim
      (λ is.
      let here : has_key lowest (r ∷ rows) ≡ true = rw is in
      exists_cons r rows ∙ rw (has_same r two same, here))
      (λ g. exists_cons r rows ∙ rw (has_same r two same) (sym (has_same r two same) ∙ sym (front g))))
      (order_cases (compared (key r) lowest)))
      (λ g.
      let is : compared (key r) lowest ≡ Greater = key_is ∙ rw g in
      let other : has r ≡ false = has_other r two (λ same. above_not_equal (sym g ∙ ap (λ (l : List ℕ). compared l wanted) same ∙ compared_self wanted)) in
      exists_cons r rows
      ∙ rw other (none_behind r rows two a.0 a.1 e.1 (below_of (take 2 r) wanted g) ∙ sym other ∙ sym (front is))))
      (order_cases (compared (take 2 r) wanted))

  -- Where the lowest key is among the rows, or is to be put.
  module _ (rows : List (List ℕ)) (a : Ascending rows) (told : (i : ℕ) → i < length rows → length (get_or rows i []) ≡ 8) {i : ℕ} where
    pub exists_found : Ok i ≡ place_of lowest rows → true ≡ exists_at authority round rows
    unfolding pick
    exists_found is = sym (exists_place rows (eights_told rows told) a ∙ rw (at_place lowest rows is).0)

    -- r is what the code reads in the row at that place, if there is one
    pub exists_not_found : {r : Bool} → Err i ≡ place_of lowest rows → r ≡ pick (ltb i (length rows)) (has (get_or rows i [])) false
        → r ≡ exists_at authority round rows
    unfolding pick
    exists_not_found is read =
        let gap = gap_place lowest rows is in
        read
        ∙ sym (
        exists_place rows (eights_told rows told) a
        ∙ rw (gap.0, sym gap.1)
        (⊎_elim
        (λ l. rw (drop-cons rows i [] l.1, lt-ltb i (length rows) l.1))
        (λ g. rw (drop_of_length-le rows {i = i} (omega (arith, g.1)), le-ltb i (length rows) (omega (arith, g.1))))
        (leb_cases (suc i) (length rows)))
        )
