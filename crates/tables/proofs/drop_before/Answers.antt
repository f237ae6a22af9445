-- `tables::drop_before` meets its contract. Assumes nothing.
use native.Mathlib.Omega.{arith}
use mathlib.Core.Path.{ap, ◌∙◌}
use Prim.Native.Nat.{ℕ, ◌-◌}
use Rattle.rows.specs.Rows.{leading_below}
use Rattle.tables.specs.Tables.{dropped}
use Rattle.tables.proofs.Stores.{leading_counted}
use Rattle.tables.proofs.drop_before.Goals as goal

pub drop_rows-requires : goal.drop_rows-requires
drop_rows-requires c =
    let a = c.args in
    let n = c.position_of_first_from-n.ensures ∙ ap (leading_below a.p) c.rows_of.ensures in
    omega (arith, leading_counted a.p a.t.now a.count, n)

pub overflow_sub-result : goal.overflow_sub-result
overflow_sub-result c =
    let a = c.args in
    let n = c.position_of_first_from-n.ensures ∙ ap (leading_below a.p) c.rows_of.ensures in
    omega (arith, leading_counted a.p a.t.now a.count, n)

pub returns : goal.returns
unfolding dropped
returns c =
    let a = c.args in
    let n = c.position_of_first_from-n.ensures ∙ ap (leading_below a.p) c.rows_of.ensures in record {
      value = ap (λ (m : ℕ). a.count - m) n;
      t_after = c.drop_rows.ensures ∙ ap (dropped a.t.now a.count) n;
    }
