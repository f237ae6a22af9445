-- A test of each authority of a list. Assumes nothing.
use mathlib.Core.Path.{◌≡◌, refl}
use mathlib.Core.Bool.{Bool, true, false}
use mathlib.Core.List.{List, [], ◌∷◌}
use Prim.Native.Nat.{ℕ}
use Rattle.std.specs.List.{list_all}
use Rattle.std.proofs.Common.{◌&&◌}
use Rattle.laws.specs.Pick.{pick}
use Rattle.index.specs.Keys.{exists_at}
use Rattle.exists.specs.Exists.{all_exist}

both : (t b : Bool) → (t && b) ≡ pick t b false
unfolding pick
both true b = refl
both false b = refl

pub listed : (authors : List ℕ) (round : ℕ) (rows : List (List ℕ)) → list_all (λ a. exists_at a round rows) authors ≡ all_exist authors round rows
unfolding all_exist
listed [] round rows = refl
listed (a ∷ authors) round rows = rw (listed authors round rows) (both (exists_at a round rows) (all_exist authors round rows))
