-- `tables::push_row` meets its contract. Assumes nothing.
use native.Mathlib.Omega.{arith}
use lib.ListN.{length}
use mathlib.Core.Path.{sym, ◌∙◌}
use Rattle.tables.proofs.Stores.{room, no_room, pushed_room, pushed_full}
use Rattle.tables.proofs.push_row.Goals as goal

pub returns-then-t-count-lt8 : goal.returns-then-t-count-lt8
returns-then-t-count-lt8 c =
    let a = c.args in record {
      value = sym (no_room (length a.t.now) a.count (omega arith));
      t_after = sym (pushed_full a.t.now a.count a.row (omega arith));
    }

pub returns : goal.returns
returns c =
    let a = c.args in record {
      value = sym (room (length a.t.now) a.count (omega arith));
      t_after = c.put_row.ensures ∙ sym (pushed_room a.t.now a.count a.row (omega arith));
    }
