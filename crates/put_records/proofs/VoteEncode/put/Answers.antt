-- `put` of a vote meets its contract. Assumes nothing.
use Rattle.std.proofs.Common.{Some, None}
use mathlib.Core.Path.{◌≡◌, refl, ap, ◌∙◌}
use mathlib.Core.Bool.{true, false}
use Prim.Native.Nat.{ℕ}
use native.Mathlib.Omega.{arith}
use lib.ListN.{length}
use Rattle.bincode.specs.Bincode.{option_bytes}
use Rattle.types.specs.Records.{vote_bytes}
use Rattle.votes.specs.declared.Vote.{Vote}
use Rattle.votes.specs.declared.Vote.TheVariants.{Reject}
use Rattle.put_records.specs.Votes.{vote_value}
use Rattle.put_records.proofs.Lengths.{length_bool, length_accept, length_reject, length_reject_other}
use Rattle.put_records.proofs.Puts.{then_put, put_number}
use Rattle.put_records.proofs.VoteEncode.put.Goals as goal
use Rattle.put_records.proofs.VoteEncode.put.Goals.{In-Reject-None, In-Reject-Some}

long : Vote → ℕ
long v = length (vote_bytes (vote_value v))

none : (c : In-Reject-None) → c.args.self ≡ Reject None
none c = c.in-Reject-None.is ∙ ap Reject (rw c.in-Reject-None.is at c.in-Reject-None.field-0-is)

some : (c : In-Reject-Some) → c.args.self ≡ Reject (Some c.in-Reject-Some.other)
some c = c.in-Reject-Some.is ∙ ap Reject (rw c.in-Reject-Some.is at c.in-Reject-Some.field-0-is)

pub put_u32-requires : goal.put_u32-requires
unfolding long
put_u32-requires c = omega (arith, ap long c.in-Accept.is, length_accept)

pub returns-in-Accept : goal.returns-in-Accept
unfolding vote_bytes
returns-in-Accept c = rw c.in-Accept.is (put_number 4 0 c.put_u32.ensures refl)

pub put_u32-requires-in-Reject-None : goal.put_u32-requires-in-Reject-None
unfolding long
put_u32-requires-in-Reject-None c = omega (arith, ap long (none (goal.at.put_u32-requires-in-Reject-None c).In-Reject-None), length_reject)

pub put-requires : goal.put-requires
unfolding long
put-requires c = omega (arith, length_bool false, ap long (none (goal.at.put-requires c).In-Reject-None), length_reject, c.put_u32-in-Reject-None.auto.s)

pub returns-in-Reject-None : goal.returns-in-Reject-None
unfolding vote_bytes option_bytes
returns-in-Reject-None c =
    rw (none (goal.at.returns-in-Reject-None c).In-Reject-None) (then_put (put_number 4 1 c.put_u32-in-Reject-None.ensures refl) c.put.ensures (omega arith))

pub put_u32-requires-in-Reject-Some : goal.put_u32-requires-in-Reject-Some
unfolding long
put_u32-requires-in-Reject-Some c =
    omega (arith, ap long (some (goal.at.put_u32-requires-in-Reject-Some c).In-Reject-Some), length_reject_other c.in-Reject-Some.other)

pub put-p-requires : goal.put-p-requires
unfolding long
put-p-requires c =
    omega (
      arith,
      length_bool true,
      ap long (some (goal.at.put-p-requires c).In-Reject-Some),
      length_reject_other c.in-Reject-Some.other,
      c.put_u32-in-Reject-Some.auto.s,
    )

pub put-requires-in-Reject-Some : goal.put-requires-in-Reject-Some
unfolding long
put-requires-in-Reject-Some c =
    omega (
      arith,
      length_bool true,
      c.put-p.ensures.end,
      ap long (some (goal.at.put-requires-in-Reject-Some c).In-Reject-Some),
      length_reject_other c.in-Reject-Some.other,
      c.put_u32-in-Reject-Some.auto.s,
      c.put-p.auto.out,
    )

pub returns-in-Reject-Some : goal.returns-in-Reject-Some
unfolding vote_bytes option_bytes long
returns-in-Reject-Some c =
    let number = c.put_u32-in-Reject-Some in
    let told = some (goal.at.returns-in-Reject-Some c).In-Reject-Some in
    let size = ap long told ∙ length_reject_other c.in-Reject-Some.other in
    rw told
    (then_put (put_number 4 1 number.ensures refl)
    (then_put c.put-p.ensures c.put-in-Reject-Some.ensures (omega (arith, c.requires, number.auto.s, size))) (omega (arith, c.requires, size)))
