-- The test of chains, a round at a time: what is reached from the parents of a round is what is reached from the blocks of the next round
-- that they include. Assumes nothing.
use mathlib.Core.Path.{◌≡◌, refl, ap, ap₂, ◌∙◌}
use mathlib.Core.Bool.{Bool, true, false}
use mathlib.Core.List.{List, [], ◌∷◌, ◌++◌}
use Prim.Native.Nat.{ℕ, zero, suc, ◌≤◌, ◌<◌}
use native.Mathlib.Omega.{arith}
use lib.Dec.{eqb}
use borrow.Author.Tests.{eq-eqb, ne_eqb}
use Rattle.laws.specs.Pick.{pick}
use Rattle.types.specs.declared.BlockReference.{BlockReference}
use Rattle.reach.specs.Blocks.{Indexed}
use Rattle.includes.specs.References.{same, among, any}
use Rattle.linked.specs.Chains.{is_earlier, reaches}
use Rattle.reach.specs.Reaching.{is_reached, next_parents, meets}
use Rattle.reach.proofs.Any.{Each, each_weaker, any_append, any_each, any_same, any_never, any_or, any_and}
use Rattle.includes.proofs.Tests.{or_false}

-- blocks of rounds before n, and of round n
abbrev pub Before : ℕ → Indexed → Type 0
Before n b = b.round < n

abbrev pub OfRound : ℕ → Indexed → Type 0
OfRound n b = b.round ≡ n

module _ (earlier : BlockReference) where
  -- the test of a step to b, of the round n, where `go` says what is reached from there on
  abbrev step : (List BlockReference → Bool) → ℕ → List BlockReference → Indexed → Bool
  step go n includes b =
      pick (eqb b.round n) (pick (among b.reference includes) (pick (is_earlier earlier n b) true (go b.includes)) false) false

  step_elsewhere : (go : List BlockReference → Bool) (n : ℕ) (includes : List BlockReference) (b : Indexed) → (b.round ≡ n → ⊥)
      → step go n includes b ≡ false
  unfolding pick
  step_elsewhere go n includes b other = rw (ne_eqb b.round n other)

  no_step : {P : Indexed → Type 0} (go : List BlockReference → Bool) (n : ℕ) (includes : List BlockReference)
      → ((b : Indexed) → P b → b.round ≡ n → ⊥) → (blocks : List Indexed) → Each P blocks → any (step go n includes) blocks ≡ false
  no_step go n includes other blocks h =
      any_each (λ b p. step_elsewhere go n includes b (other b p)) blocks h ∙ any_never blocks

  -- no block is of the next round
  pub reaches_gap : (blocks : List Indexed) (n : ℕ) (includes : List BlockReference) → Each (Before n) blocks
      → reaches blocks earlier (suc n) includes ≡ false
  unfolding reaches
  reaches_gap blocks n includes h =
      no_step (reaches blocks earlier n) n includes (λ b p e. omega arith) blocks h

  pub reaches_none : (n : ℕ) (includes : List BlockReference) → reaches [] earlier n includes ≡ false
  unfolding reaches any
  reaches_none zero includes = refl
  reaches_none (suc n) includes = refl

  -- blocks of later rounds do not matter
  reaches_skip : (n : ℕ) (hi lo : List Indexed) (includes : List BlockReference) → Each (λ (b : Indexed). n ≤ b.round) hi
      → reaches (hi ++ lo) earlier n includes ≡ reaches lo earlier n includes
  unfolding reaches pick
  reaches_skip zero hi lo includes h = refl
  reaches_skip (suc n) hi lo includes h =
      any_append (step (reaches (hi ++ lo) earlier n) n includes) hi lo
      ∙ ap (λ (t : Bool). pick t true (any (step (reaches (hi ++ lo) earlier n) n includes) lo)) (
      no_step (reaches (hi ++ lo) earlier n) n includes (λ b p e. omega arith) hi h
      )
      ∙ any_same
      (λ (b : Indexed).
      ap (λ (t : Bool). pick (eqb b.round n) (pick (among b.reference includes) (pick (is_earlier earlier n b) true t) false) false)
      (reaches_skip n hi lo b.includes (each_weaker (λ b p. omega arith) hi h)))
      lo

  module _ (n : ℕ) (blocks lo : List Indexed) (these : Each (OfRound n) blocks) (rest : Each (Before n) lo) where
    -- what holds of a block from which the earlier one is reached
    goes : Indexed → Bool
    goes b = pick (is_earlier earlier n b) true (reaches lo earlier n b.includes)

    one_parent : (includes : List BlockReference) → reaches (blocks ++ lo) earlier (suc n) includes
        ≡ any (λ (b : Indexed). pick (among b.reference includes) (goes b) false) blocks
    unfolding reaches goes pick
    one_parent includes =
        let test : Indexed → Bool = step (reaches (blocks ++ lo) earlier n) n includes in
        any_append test blocks lo
        ∙ ap (pick (any test blocks) true) (no_step (reaches (blocks ++ lo) earlier n) n includes (λ b p e. omega arith) lo rest)
        ∙ or_false (any test blocks)
        ∙ any_each {f = test} {g = λ (b : Indexed). pick (among b.reference includes) (goes b) false}
        (λ (b : Indexed) e.
        rw (eq-eqb b.round n e)
        (ap (λ (t : Bool). pick (among b.reference includes) (pick (is_earlier earlier n b) true t) false)
        (reaches_skip n blocks lo b.includes (each_weaker (λ b p. omega arith) blocks these))))
        blocks these

    module _ (parents : List (List BlockReference)) where
      all_parents : (bs : List Indexed) → any (λ includes. any (λ (b : Indexed). pick (among b.reference includes) (goes b) false) bs) parents
          ≡ pick (pick (meets earlier parents bs) (eqb n earlier.round) false) true (any (reaches lo earlier n) (next_parents parents bs))
      unfolding any meets next_parents is_reached is_earlier goes pick
      all_parents [] = any_never parents
      all_parents (b ∷ bs) =
          any_or (λ includes. pick (among b.reference includes) (goes b) false)
          (λ includes. any (λ (b : Indexed). pick (among b.reference includes) (goes b) false) bs) parents
          ∙ ap₂ (λ (t u : Bool). pick t true u) (any_and (among b.reference) (goes b) parents) (all_parents bs)
          ∙ reached (any (among b.reference) parents) (eqb n earlier.round) (same b.reference earlier) (meets earlier parents bs)
          b.includes (next_parents parents bs)
        where
          either : (c e m r : Bool) (u : Bool)
              → pick (pick (pick c e false) true r) true (pick (pick m c false) true u) ≡ pick (pick (pick e true m) c false) true (pick r true u)
          either true true m r u = refl
          either true false true true u = refl
          either true false true false u = refl
          either true false false r u = refl
          either false true true r u = refl
          either false true false r u = refl
          either false false true r u = refl
          either false false false r u = refl

          reached : (t c e m : Bool) (x : List BlockReference) (xs : List (List BlockReference))
              → pick (pick t (pick (pick c e false) true (reaches lo earlier n x)) false) true (pick (pick m c false) true (any (reaches lo earlier n) xs))
              ≡ pick (pick (pick (pick t e false) true m) c false) true (any (reaches lo earlier n) (pick t (x ∷ xs) xs))
          reached true c e m x xs = either c e m (reaches lo earlier n x) (any (reaches lo earlier n) xs)
          reached false c e m x xs = refl

      pub reaches_round : any (reaches (blocks ++ lo) earlier (suc n)) parents
          ≡ pick (pick (meets earlier parents blocks) (eqb n earlier.round) false) true (any (reaches lo earlier n) (next_parents parents blocks))
      reaches_round = any_same one_parent parents ∙ all_parents blocks
