-- `text::+put_decimal` meets its contract, by the two equations of `decimal`. Assumes nothing.
use mathlib.Core.Path.{refl}
use Prim.Native.Nat.{◌/◌, ◌^◌, ◌<◌}
use native.Mathlib.Omega.{arith}
use Rattle.text.proofs.Digits.{decimal_one, decimal_more, length_decimal_64}
use Rattle.text.proofs.Put.{then_put}
use Rattle.text.proofs.+put_decimal.Goals as goal

pub returns-then-n-lt10 : goal.returns-then-n-lt10
returns-then-n-lt10 t c =
    let n = c.args.n in
    rw (decimal_one n c.if-n-lt10.true) c.put_byte.ensures

pub overflow_add-result : goal.overflow_add-result
overflow_add-result t c =
    let h : c.args.n / 10 < 2 ^ 64 = omega (arith, c.ranges.n) in
    omega (arith, length_decimal_64 (c.args.n / 10) h, c.put_decimal-next.ensures.next, c.requires)

pub returns : goal.returns
returns t c =
    let n = c.args.n in
    rw (decimal_more n c.if-n-lt10.false)
    (then_put c.put_decimal-next.ensures (record { next = refl; bytes = c.store.ensures }))
