-- `types::include_at` meets its contract. Assumes nothing.
use Prim.Native.Nat.{◌+◌, ◌*◌, ◌<◌}
use native.Mathlib.Omega.{arith}
use lib.ListN.{length}
use Rattle.laws.specs.Parse.{answer}
use Rattle.types.proofs.References.{reference_past}
use Rattle.types.proofs.include_at.Goals as goal
use Rattle.types.proofs.include_at.Goals.{then-len-place-via-then-len-place, then-len-place-via-else-len-place+then-len-place-2}

pub returns-then-len-place : goal.returns-then-len-place
unfolding answer
returns-then-len-place c =
    let past : length c.args.s.now < c.args.place + 56 * c.args.i =
    elim c.then-len-place.branch [
      | then-len-place-via-then-len-place w ↦ omega arith
      | then-len-place-via-else-len-place+then-len-place-2 w ↦ omega arith
    ] in
    rw (reference_past c.args.s.now (c.args.place + 56 * c.args.i) past)
