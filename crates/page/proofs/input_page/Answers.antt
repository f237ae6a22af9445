-- `page::input_page` meets its contract. Assumes nothing.
use native.Mathlib.Omega.{arith}
use mathlib.Core.List.{List}
use Prim.Native.Nat.{ℕ, ◌≤◌}
use lib.ListN.{length-replicate}
use Rattle.laws.specs.Bytes.{AllBytes}
use Rattle.text.specs.Put.{Put}
use Rattle.page_text.specs.Page.{input_page}
use Rattle.page_text.proofs.Room.{room}
use Rattle.page.proofs.Inputs.{prints_long, prints_short, page_printed}
use Rattle.page.proofs.input_page.Goals as goal

-- the page of an input, and how long it is at most
printed : (input : List ℕ) → AllBytes input → {out out' : List ℕ} {r : ℕ} → Put 0 (input_page input) out out' r
    → Put 0 (input_page input) out out' r × (r ≤ 309301)
printed input all put = (put, omega (arith, put.next, room input all))

pub returns-then-input-gt-INPUT_MAX : goal.returns-then-input-gt-INPUT_MAX
returns-then-input-gt-INPUT_MAX c =
    let input = c.args.input.now in
    let put = printed input (λ n. (c.type_inv.input n).fits) (rw (prints_long input (omega arith)) (rw c.number.ensures at c.put_number_line.ensures)) in
    record { put = put.0; upper_bound = put.1 }

pub returns-in_default : goal.returns-in_default
returns-in_default c =
    let input = c.args.input.now in
    let put = printed input (λ n. (c.type_inv.input n).fits) (rw (prints_short input c.in_default.len_below) (rw c.number-in_default.ensures at c.put_number_line-in_default.ensures)) in
    record { put = put.0; upper_bound = put.1 }

pub returns : goal.returns
returns c =
    let input = c.args.input.now in
    let empty = length-replicate {A = ℕ} 32768 0 in
    let put = printed input (λ n. (c.type_inv.input n).fits)
    (page_printed input c.if-input-gt-INPUT_MAX.false c.in-len3-up.len_at_least c.from.ensures c.from-2.ensures c.from-3.ensures c.recovery_page-page.ensures empty empty empty empty) in
    record { put = put.0; upper_bound = put.1 }
