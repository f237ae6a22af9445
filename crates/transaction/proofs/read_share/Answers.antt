-- `transaction::read_share` meets its contract: the block that was read lies in the image, and the Share in the block. Assumes nothing.
use mathlib.Core.Path.{sym, ap, ◌∙◌}
use mathlib.Core.List.{List}
use Prim.Native.Nat.{ℕ}
use native.Mathlib.Omega.{arith}
use Rattle.std.proofs.Common.{rules}
use Rattle.laws.proofs.Parts.{part_is}
use Rattle.refusal.proofs.Numbers.{handed_on}
use Rattle.transaction.specs.Transaction.{share_in}
use Rattle.transaction.proofs.Transactions.{placed_share, row_refused, row_within, share_begins, row_answer}
use Rattle.transaction.proofs.read_share.Goals as goal

pub returns-in_err-block : goal.returns-in_err-block
returns-in_err-block c =
    let a = c.args in
    let v = a.view.now in
    handed_on c.from_residual.result c.from_residual.ensures
    ∙ row_refused v.log v.store a.offset a.row.now (sym c.in_err-block.was ∙ c.read_block.ensures)

pub overflow_add-at : goal.overflow_add-at
overflow_add-at c =
    let a = c.args in
    let v = a.view.now in
    omega (arith, row_within v.log v.store a.offset a.row.now c.in_ok-block.ensures)

pub slice_bounds-share_in-end : goal.slice_bounds-share_in-end
slice_bounds-share_in-end c =
    let a = c.args in
    let v = a.view.now in
    row_within v.log v.store a.offset a.row.now c.in_ok-block.ensures

pub map-requires : goal.map-requires
map-requires c =
    let a = c.args in
    let v = a.view.now in
    let bytes = c.in_ok-block.block.bytes in
    λ share there κs x h f g.
    omega (
      arith,
      share_begins v.log v.store a.offset a.row.now c.in_ok-block.ensures
          (c.share_in-found.ensures ∙ ap (λ (l : List ℕ). share_in l a.offset) (part_is v.log.image.now bytes.at bytes.left)) there,
    )

pub returns : goal.returns
returns c =
    let a = c.args in
    let v = a.view.now in
    let bytes = c.in_ok-block.block.bytes in
    row_answer v.log v.store a.offset a.row.now c.in_ok-block.ensures
    (c.share_in-found.ensures ∙ ap (λ (l : List ℕ). share_in l a.offset) (part_is v.log.image.now bytes.at bytes.left))
    (placed_share bytes.at c.share_in-found.result _ c.map.ensures.cases (λ share placed is. search rules)) c.not_loaded.ensures c.count_loads.ensures
