-- What a question answers, once its checks passed. Assumes nothing.
use mathlib.Core.Path.{◌≡◌, refl, sym, ◌∙◌}
use mathlib.Core.Bool.{Bool, true, false}
use mathlib.Core.List.{List}
use Prim.Native.Nat.{ℕ}
use Rattle.std.specs.Result.{is_ok}
use Rattle.std.proofs.Common.{Ok, Err}
use Rattle.laws.specs.Pick.{pick}
use Rattle.rows.specs.Rows.{below, has_key, place_of}
use Rattle.exists.specs.Exists.{all_there, round_there, all_exist}

-- a key found among the rows is there
pub found_has : (k : List ℕ) (rows : List (List ℕ)) → is_ok (place_of k rows) ≡ has_key k rows
unfolding place_of pick
found_has k rows = by (has_key k rows)
  where
    by : (t : Bool) → is_ok (pick t (Ok (below k rows)) (Err (below k rows))) ≡ t
    by true = refl
    by false = refl

-- a round without blocks has none of the authorities
module _ (authors : List ℕ) (round : ℕ) (rows : List (List ℕ)) where
  pub none_there : {x : Bool} → x ≡ round_there round rows → x ≡ false → false ≡ all_there authors round rows
  unfolding all_there pick
  none_there is e = rw (← is, e)

  pub some_there : {x : Bool} → x ≡ round_there round rows → x ≡ true → all_exist authors round rows ≡ all_there authors round rows
  unfolding all_there pick
  some_there is e = rw (← is, e)
