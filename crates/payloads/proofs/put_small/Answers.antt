-- `payloads::put_small` meets its contract, by the three kinds of small payloads. Assumes nothing.
use borrow.Author.Rules.{rules}
use mathlib.Core.Path.{◌≡◌}
use Prim.Native.Nat.{suc, ◌-◌}
use native.Mathlib.Omega.{arith}
use lib.Dec.{lit≤}
use Rattle.payloads.proofs.Lines.{none_whole, small_none, small_empty, small_share}
use Rattle.payloads.proofs.put_small.Goals as goal

pub put_payload-requires : goal.put_payload-requires
put_payload-requires c = record {
  at_bound = (omega (arith, c.requires.0), lit≤ tt);
  statements_value = none_whole;
}

pub returns-in-0 : goal.returns-in-0
returns-in-0 c = rw (c.in-0.is, small_none) (search rules)

pub returns-in-1 : goal.returns-in-1
returns-in-1 c = rw (c.in-1.is, small_empty) (search rules)

pub returns-in_default : goal.returns-in_default
returns-in_default c =
    let e : c.args.i ≡ suc (suc (c.args.i - 2)) = omega arith in
    rw (e, small_share (c.args.i - 2) (omega (arith, c.requires.1))) c.put_share-in_default.ensures
