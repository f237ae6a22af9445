-- `tables::insert_row` meets its contract: two writes, the second just before the first, are one. Assumes nothing.
use mathlib.Core.Path.{◌∙◌, ap}
use mathlib.Core.List.{List}
use Prim.Native.Nat.{ℕ, ◌+◌, ◌-◌, ◌*◌}
use native.Mathlib.Omega.{arith}
use Rattle.laws.specs.Bytes.{bytes_at, written}
use Rattle.rows.proofs.Words.{written_before}
use Rattle.tables.proofs.Stores.{rows_moved}
use Rattle.tables.proofs.insert_row.Goals as goal

pub returns : goal.returns
returns c =
    let a = c.args in
    let at : ℕ = 8 * a.i in
    let moved : List ℕ = bytes_at a.t.now at (8 * (a.count - a.i)) in
    c.put_row.ensures
    ∙ ap (λ (s : List ℕ). written s at a.row) (c.copy_within.ensures.after ∙ rows_moved a.t.now a.i a.count (at + 8) (omega arith) (omega arith))
    ∙ written_before a.t.now at (at + 8) a.row moved (omega arith) (omega arith)
