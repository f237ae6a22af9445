-- `reach::is_reached` meets its contract. Assumes nothing.
use mathlib.Core.Path.{ap, ◌∙◌, subst}
use Prim.Native.Nat.{◌+◌}
use native.Mathlib.Omega.{arith}
use lib.ListN.{length}
use Rattle.std.proofs.Common.{Some}
use Rattle.rows.proofs.Rows.{length_rows_of}
use Rattle.reach.specs.Reaching.{Held}
use Rattle.reach.proofs.Asking.{lent_rows, by_later, by_rows}
use Rattle.reach.proofs.is_reached.Goals as goal
use Rattle.reach.proofs.is_reached.Goals.{In-Some}

pub includes-requires : goal.includes-requires
includes-requires c = c.requires.parses

pub returns-in-None : goal.returns-in-None
returns-in-None c =
    let a = c.args in
    record {
      value = rw c.in-None.is (c.includes.ensures ∙ by_later a.image.now a.later.now a.from a.work.now a.reference);
      bytes = λ n. (c.type_inv.image n).fits;
    }

-- the parents' rows are lent
held : (c : In-Some) → Held c.args.image.now (Some c.in-Some.n) c.args.from c.args.work.now
held c = let a = c.args in subst (λ p. Held a.image.now p a.from a.work.now) c.in-Some.is c.requires.held

pub rows_of-requires : goal.rows_of-requires
rows_of-requires c = (held (goal.at.rows_of-requires c).In-Some).0

pub slice_bounds-any_includes-count : goal.slice_bounds-any_includes-count
slice_bounds-any_includes-count c =
    omega (arith, ap length c.rows_of.ensures, length_rows_of (c.args.from + c.in-Some.n) c.args.work.now)

pub slice_bounds-any_includes-start : goal.slice_bounds-any_includes-start
slice_bounds-any_includes-start c =
    omega (arith, ap length c.rows_of.ensures, length_rows_of (c.args.from + c.in-Some.n) c.args.work.now)

pub any_includes-requires : goal.any_includes-requires
any_includes-requires c =
    let a = c.args in
    rw (lent_rows a.from a.work.now c.in-Some.n c.rows_of.ensures) (held (goal.at.any_includes-requires c).In-Some).1

pub returns-in-Some : goal.returns-in-Some
returns-in-Some c =
    let a = c.args in
    record {
      value = rw c.in-Some.is (rw (lent_rows a.from a.work.now c.in-Some.n c.rows_of.ensures) at c.any_includes.ensures ∙ by_rows a.image.now a.later.now a.from a.work.now a.reference c.in-Some.n);
      bytes = λ n. (c.type_inv.image n).fits;
    }
