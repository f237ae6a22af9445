-- `bincode::decode_bytes` meets its contract. Assumes nothing.
use borrow.Author.Tests.{leb-false}
use mathlib.Core.Path.{◌≡◌, sym, ◌∙◌}
use native.Mathlib.Omega.{arith}
use Rattle.laws.specs.Parse.{answer, then, number, got}
use Rattle.laws.proofs.Written.{length_bytes_at}
use Rattle.laws.proofs.Parses.{raw_got, raw_bad, number_found}
use Rattle.bincode.specs.Bincode.{byte_string}
use Rattle.bincode.proofs.Found.{within, told, nothing}
use Rattle.bincode.proofs.decode_bytes.Goals as goal
use Rattle.bincode.proofs.decode_bytes.Goals.{In_ok-n}

-- the count, and the place behind it

count : (c : In_ok-n) → number 8 c.args.s.now c.args.at ≡ got c.in_ok-n.n c.in_ok-n.start
count c = told _ c.in_ok-n.ensures

pub returns-in_err-n : goal.returns-in_err-n
unfolding answer byte_string then
returns-in_err-n c = rw (c.from_residual.ensures, nothing (number 8 c.args.s.now c.args.at) c.in_err-n.ensures)

pub overflow_add-result : goal.overflow_add-result
overflow_add-result c = omega (arith, within c.in_ok-n.n c.args.s.now c.in_ok-n.start c.fits.ensures c.if-fits.true)

pub returns-then-fits : goal.returns-then-fits
unfolding answer byte_string then
returns-then-fits c =
    let s = c.args.s.now in
    let n = count (goal.at.returns-then-fits c).In_ok-n in
    let fit = within c.in_ok-n.n s c.in_ok-n.start c.fits.ensures c.if-fits.true in
    rw (
      n,
      raw_got c.in_ok-n.n s c.in_ok-n.start fit,
      length_bytes_at s c.in_ok-n.start c.in_ok-n.n fit,
      (number_found 8 s c.args.at n).end,
    )

pub returns : goal.returns
unfolding answer byte_string then
returns c =
    rw (
      count (goal.at.returns c).In_ok-n,
      raw_bad c.in_ok-n.n c.args.s.now c.in_ok-n.start (leb-false _ _ (sym c.fits.ensures ∙ c.if-fits.false)),
    )
