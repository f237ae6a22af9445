-- References compared: `==` answers `same`, which decides equality. Assumes nothing.
use mathlib.Core.Path.{◌≡◌, refl, ap, ap₂, ◌∙◌}
use mathlib.Core.Bool.{Bool, true, false, ◌&&◌}
use mathlib.Core.List.{List, [], ◌∷◌}
use Prim.Native.Nat.{ℕ}
use lib.Dec.{eqb}
use lib.Pointwise.{pointwise}
use borrow.Author.Tests.{eqb-true, eq-eqb}
use Rattle.laws.specs.Pick.{pick}
use Rattle.types.specs.declared.BlockReference.{BlockReference}
use Rattle.includes.specs.References.{same_bytes, same}
use Rattle.includes.proofs.Tests.{both, both_hold}

-- ---- What `==` answers

and_picks : (x : Bool) {y z : Bool} → y ≡ z → (x && y) ≡ pick x z false
unfolding pick
and_picks true h = h
and_picks false h = refl

bytes_compared : (a b : List ℕ) → pointwise eqb a b ≡ same_bytes a b
unfolding same_bytes
bytes_compared [] [] = refl
bytes_compared [] (y ∷ b) = refl
bytes_compared (x ∷ a) [] = refl
bytes_compared (x ∷ a) (y ∷ b) = and_picks (eqb x y) (bytes_compared a b)

exchanged : (x y z : Bool) → (x && (y && z)) ≡ pick y (pick x z false) false
unfolding pick
exchanged true true z = refl
exchanged true false z = refl
exchanged false true z = refl
exchanged false false z = refl

-- the derived test compares authorities before rounds
pub compared : (a b : BlockReference) → (eqb a.authority b.authority && (eqb a.round b.round && pointwise eqb a.digest.0 b.digest.0)) ≡ same a b
unfolding same
compared a b = rw (bytes_compared a.digest.0 b.digest.0) (exchanged (eqb a.authority b.authority) (eqb a.round b.round) _)

-- ---- The test decides equality

bytes_equal : (a b : List ℕ) → same_bytes a b ≡ true → a ≡ b
unfolding same_bytes
bytes_equal [] [] h = refl
bytes_equal [] (y ∷ b) h = cc
bytes_equal (x ∷ a) [] h = cc
bytes_equal (x ∷ a) (y ∷ b) h =
    let t = both (eqb x y) h in
    ap₂ ◌∷◌ (eqb-true x y t.0) (bytes_equal a b t.1)

bytes_self : (a : List ℕ) → same_bytes a a ≡ true
unfolding same_bytes
bytes_self [] = refl
bytes_self (x ∷ a) = both_hold (eq-eqb x x refl) (bytes_self a)

pub same_equal : (a b : BlockReference) → same a b ≡ true → a ≡ b
unfolding same
same_equal a b h =
    let t = both (eqb a.round b.round) h in
    let u = both (eqb a.authority b.authority) t.1 in
    ap (λ (x : ℕ). record { authority = x; round = a.round; digest = a.digest }) (eqb-true _ _ u.0)
    ∙ ap (λ (x : ℕ). record { authority = b.authority; round = x; digest = a.digest }) (eqb-true _ _ t.0)
    ∙ ap (λ (d : List ℕ). record { authority = b.authority; round = b.round; digest = record { 0 = d } })
    (bytes_equal a.digest.0 b.digest.0 u.1)

pub same_self : (a : BlockReference) → same a a ≡ true
unfolding same
same_self a =
    both_hold (eq-eqb a.round a.round refl) (both_hold (eq-eqb a.authority a.authority refl) (bytes_self a.digest.0))
