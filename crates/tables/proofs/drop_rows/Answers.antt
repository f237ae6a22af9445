-- `tables::drop_rows` meets its contract: two writes in a row are one. Assumes nothing.
use mathlib.Core.Path.{◌≡◌, ◌∙◌, ap}
use mathlib.Core.List.{List}
use Prim.Native.Nat.{ℕ, ◌-◌, ◌*◌}
use native.Mathlib.Omega.{arith}
use lib.ListN.{length-take, length-drop}
use Rattle.laws.specs.Bytes.{bytes_at, written, zeros}
use Rattle.laws.proofs.Written.{then_written, length_bytes_at, length_zeros}
use Rattle.tables.proofs.Stores.{put_written, rows_moved}
use Rattle.tables.proofs.drop_rows.Goals as goal

pub returns : goal.returns
unfolding zeros
returns c =
    let a = c.args in
    let left : ℕ = 8 * (a.count - a.n) in
    let moved : List ℕ = bytes_at a.t.now (8 * a.n) left in
    let long = c.copy_within.ensures.len in
    let zeroed : c.fill.new.self ≡ zeros (8 * a.n) =
    c.fill.ensures.after (λ y e. e) ∙ ap zeros (simp (length-take, length-drop) (omega (arith, long))) in
    put_written c.copy_within.new.self left _ zeroed (omega (arith, length_zeros (8 * a.n)))
    ∙ ap (λ (s : List ℕ). written s left (zeros (8 * a.n))) (c.copy_within.ensures.after ∙ rows_moved a.t.now a.n a.count 0 (omega arith) (omega arith))
    ∙ then_written a.t.now 0 left moved (zeros (8 * a.n)) (omega arith) (omega (arith, length_bytes_at a.t.now (8 * a.n) left (omega arith)))
