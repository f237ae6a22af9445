-- What a test that all of a list is a record tells. Assumes nothing.
use Rattle.std.proofs.Common.{Some}
use Rattle.std.specs.Option.{option_eq}
use mathlib.Core.Path.{◌≡◌, refl, sym, ap, ◌∙◌}
use mathlib.Core.Bool.{Bool, true, false}
use mathlib.Core.List.{List}
use mathlib.Core.Option.{none, some}
use Prim.Native.Nat.{ℕ}
use native.Mathlib.Omega.{arith}
use borrow.Author.Tests.{eqb-true}
use lib.Dec.{eqb}
use lib.ListN.{length}
use Rattle.laws.specs.Pick.{pick}
use Rattle.laws.specs.Parse.{Res, bad, got, Parser, answer}
use Rattle.bincode.specs.Answers.{end_answer}
use Rattle.encode_blocks.specs.Whole.{whole, is_whole, laid_out}

module _ {A : Type 0} (n : ℕ) where
  none_of : (r : Res A) → answer false (λ x e. eqb e n) r ≡ false → answer none (λ x e. pick (eqb e n) (some x) none) r ≡ none
  unfolding answer pick
  none_of bad h = refl
  none_of (got x e) h = rw h

  some_of : (r : Res A) → answer false (λ x e. eqb e n) r ≡ true
      → (x : A) × (r ≡ got x n) × (answer none (λ x e. pick (eqb e n) (some x) none) r ≡ some x)
  unfolding answer pick
  some_of bad h = let z : ◌≡◌ {A = ℕ} 0 1 = cc in absurd (omega arith)
  some_of (got x e) h = (x, ap (got x) (eqb-true e n h), rw h)

module _ {A : Type 0} (f : Parser A) (s : List ℕ) {test : Bool} (told : test ≡ is_whole f s) where
  pub whole_none : test ≡ false → whole f s ≡ none
  unfolding whole is_whole
  whole_none t = none_of (length s) (f s 0) (sym told ∙ t)

  pub whole_some : test ≡ true → (x : A) × (f s 0 ≡ got x (length s)) × (whole f s ≡ some x)
  unfolding whole is_whole
  whole_some t = some_of (length s) (f s 0) (sym told ∙ t)

-- what is no record has no layout
pub nothing_laid : {A : Type 0} (f : Parser A) (layout : A → List ℕ) (s : List ℕ) {test : Bool} → test ≡ is_whole f s → test ≡ false
    → laid_out layout (whole f s) ≡ none
nothing_laid f layout s told t = rw (whole_none f s told t)

-- the test, by the place where the record ends
ended_of : {A : Type 0} (n : ℕ) (x : Res A) → option_eq eqb (end_answer x) (Some n) ≡ answer false (λ a e. eqb e n) x
unfolding answer
ended_of n bad = refl
ended_of n (got a e) = refl

pub ended : {A : Type 0} (f : Parser A) (s : List ℕ) → option_eq eqb (end_answer (f s 0)) (Some (length s)) ≡ is_whole f s
unfolding is_whole
ended f s = ended_of (length s) (f s 0)
