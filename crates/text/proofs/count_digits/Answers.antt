-- `text::count_digits` meets its contract: each turn takes the last digit off. Assumes nothing.
use mathlib.Core.Path.{ap}
use native.Mathlib.Omega.{arith}
use lib.ListN.{length, length-append}
use Rattle.text.proofs.Digits.{decimal_one, decimal_more, length_decimal_64}
use Rattle.text.proofs.count_digits.Goals as goal

pub overflow_add-count : goal.overflow_add-count
overflow_add-count c =
    omega (arith, length_decimal_64 c.args.n (omega (arith, c.ranges.n)))

pub loop-left-preserved : goal.loop-left-preserved
loop-left-preserved c =
    let l = c.loop-left in
    omega (arith, simp length-append at (ap length (decimal_more l.left (omega arith))))

pub returns : goal.returns
returns c =
    let l = c.loop-left in
    omega (arith, ap length (decimal_one l.left (omega arith)))
