-- The test of an ancestor is that of a chain of includes: `ancestor_chain` and `chain_ancestor`. Assumes nothing.
use mathlib.Core.Path.{◌≡◌, sym, subst}
use mathlib.Core.Bool.{Bool, true, true≢false}
use mathlib.Core.List.{List, [], ◌∷◌}
use mathlib.Core.Logic.{inl, inr, ⊎_elim}
use Prim.Native.Nat.{ℕ, zero, suc}
use lib.Dec.{eqb}
use borrow.Author.Tests.{eqb-true, eq-eqb}
use Rattle.types.specs.declared.BlockReference.{BlockReference}
use Rattle.types.specs.Records.{BlockValue}
use Rattle.reach.specs.Blocks.{Indexed}
use Rattle.linked.specs.Chains.{In, first, behind, Chain, ends, goes, Ancestor, is_earlier, reaches, is_ancestor}
use Rattle.includes.specs.References.{same, among, any}
use Rattle.includes.proofs.Tests.{both, both_hold, either, first_holds, second_holds}
use Rattle.includes.proofs.Comparing.{same_equal, same_self}

-- ---- Members of a list

among_in : (x : BlockReference) (xs : List BlockReference) → among x xs ≡ true → In x xs
unfolding among
among_in x [] h = absurd (true≢false (sym h))
among_in x (y ∷ ys) h =
    ⊎_elim
    (λ s. subst (λ (z : BlockReference). In x (z ∷ ys)) (same_equal x y s) first)
    (λ r. behind (among_in x ys r))
    (either (same x y) h)

in_among : {x : BlockReference} {xs : List BlockReference} → In x xs → among x xs ≡ true
unfolding among
in_among {x} (first {xs}) = first_holds (among x xs) (same_self x)
in_among {x} (behind {y} {xs} i) = second_holds (same x y) (in_among i)

module _ {A : Type 0} (f : A → Bool) where
  any_in : (xs : List A) → any f xs ≡ true → (b : A) × In b xs × (f b ≡ true)
  unfolding any
  any_in [] h = absurd (true≢false (sym h))
  any_in (x ∷ xs) h =
      ⊎_elim
      (λ s. (x, first, s))
      (λ r. let i = any_in xs r in (i.0, behind i.1, i.2))
      (either (f x) h)

  in_any : {b : A} {xs : List A} → In b xs → f b ≡ true → any f xs ≡ true
  unfolding any
  in_any (first {xs}) h = first_holds (any f xs) h
  in_any (behind {y} {xs} i) h = second_holds (f y) (in_any i h)

-- ---- Chains

module _ (blocks : List Indexed) (earlier : BlockReference) where
  reaches_chain : (n : ℕ) (includes : List BlockReference) → reaches blocks earlier n includes ≡ true → Chain blocks earlier n includes
  unfolding reaches is_earlier
  reaches_chain zero includes h = absurd (true≢false (sym h))
  reaches_chain (suc n) includes h =
      let i = any_in _ blocks h in
      let b : Indexed = i.0 in
      let t = both (eqb b.round n) i.2 in
      let u = both (among b.reference includes) t.1 in
      let round : b.round ≡ n = eqb-true b.round n t.0 in
      let included : In b.reference includes = among_in b.reference includes u.0 in
      ⊎_elim
      (λ e.
      let v = both (eqb n earlier.round) e in
      ends b i.1 round included (eqb-true n earlier.round v.0) (same_equal b.reference earlier v.1))
      (λ r. goes b i.1 round included (reaches_chain n b.includes r))
      (either (is_earlier earlier n b) u.1)

  chain_reaches : {n : ℕ} {includes : List BlockReference} → Chain blocks earlier n includes → reaches blocks earlier n includes ≡ true
  unfolding reaches is_earlier
  chain_reaches (ends {n} b i round included last is) =
      in_any _ i
      (both_hold (eq-eqb b.round n round)
      (both_hold (in_among included)
      (first_holds (reaches blocks earlier n b.includes)
      (both_hold (eq-eqb n earlier.round last) (subst (λ (x : BlockReference). same b.reference x ≡ true) is (same_self b.reference))))))
  chain_reaches (goes {n} b i round included c) =
      in_any _ i
      (both_hold (eq-eqb b.round n round)
      (both_hold (in_among included) (second_holds (is_earlier earlier n b) (chain_reaches c))))

module _ (blocks : List Indexed) (later : BlockValue) (earlier : BlockReference) where
  pub ancestor_chain : is_ancestor blocks later earlier ≡ true → Ancestor blocks later earlier
  unfolding is_ancestor
  ancestor_chain h =
      ⊎_elim
      (λ s. inl (same_equal later.reference earlier s))
      (λ r. inr (reaches_chain blocks earlier later.reference.round later.includes r))
      (either (same later.reference earlier) h)

  pub chain_ancestor : Ancestor blocks later earlier → is_ancestor blocks later earlier ≡ true
  unfolding is_ancestor
  chain_ancestor (inl is) =
      first_holds (reaches blocks earlier later.reference.round later.includes)
      (subst (λ (x : BlockReference). same later.reference x ≡ true) is (same_self later.reference))
  chain_ancestor (inr c) = second_holds (same later.reference earlier) (chain_reaches blocks earlier c)
