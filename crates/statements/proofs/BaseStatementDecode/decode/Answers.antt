-- `decode` of a statement meets its contract. Assumes nothing.
use native.Mathlib.Omega.{arith}
use borrow.Author.Tests.{ne_eqb}
use mathlib.Core.Path.{refl, ap}
use Rattle.laws.specs.Pick.{pick}
use Rattle.laws.specs.Parse.{answer, then, number}
use Rattle.bincode.specs.Bincode.{byte_string}
use Rattle.bincode.proofs.Found.{told, nothing, told_none, told_then, bytes_placed}
use Rattle.types.specs.Records.{locator, range, vote, statement as parser}
use Rattle.statements.specs.declared.BaseStatement.TheVariants.{Share, Vote}
use Rattle.statements.proofs.BaseStatementDecode.decode.Goals as goal

pub returns-in_err-variant : goal.returns-in_err-variant
unfolding answer then parser
returns-in_err-variant c = rw (c.from_residual.ensures, nothing (number 4 c.args.s.now c.args.at) c.in_err-variant.ensures)

pub returns-in_err-bytes-in-0 : goal.returns-in_err-bytes-in-0
unfolding answer then pick parser
returns-in_err-bytes-in-0 c =
    let v = told (number 4 c.args.s.now c.args.at) c.in_ok-variant.ensures in
    rw (c.from_residual-in_err-bytes-in-0.ensures, v, c.in-0.is, told_none _ (byte_string c.args.s.now c.in_ok-variant.p) c.in_err-bytes-in-0.ensures)

pub returns-in_ok-bytes-in-0 : goal.returns-in_ok-bytes-in-0
unfolding answer then pick parser
returns-in_ok-bytes-in-0 c =
    let v = told (number 4 c.args.s.now c.args.at) c.in_ok-variant.ensures in
    rw (v, c.in-0.is)
    (told_then _ _ _ Share (byte_string c.args.s.now c.in_ok-variant.p) (λ b e found. ap Share (bytes_placed c.args.s.now c.in_ok-variant.p b e found)) c.in_ok-bytes-in-0.ensures)

pub returns-in_err-locator-in-1 : goal.returns-in_err-locator-in-1
unfolding answer then pick parser
returns-in_err-locator-in-1 c =
    let v = told (number 4 c.args.s.now c.args.at) c.in_ok-variant.ensures in
    rw (c.from_residual-in_err-locator-in-1.ensures, v, c.in-1.is, nothing (locator c.args.s.now c.in_ok-variant.p) c.in_err-locator-in-1.ensures)

pub returns-in_err-vote-in-1 : goal.returns-in_err-vote-in-1
unfolding answer then pick parser
returns-in_err-vote-in-1 c =
    let v = told (number 4 c.args.s.now c.args.at) c.in_ok-variant.ensures in
    rw (c.from_residual-in_err-vote-in-1.ensures, v, c.in-1.is, told (locator c.args.s.now c.in_ok-variant.p) c.in_ok-locator-in-1.ensures, told_none _ (vote c.args.s.now c.in_ok-locator-in-1.q) c.in_err-vote-in-1.ensures)

pub returns-in_ok-vote-in-1 : goal.returns-in_ok-vote-in-1
unfolding answer then pick parser
returns-in_ok-vote-in-1 c =
    let v = told (number 4 c.args.s.now c.args.at) c.in_ok-variant.ensures in
    rw (v, c.in-1.is, told (locator c.args.s.now c.in_ok-variant.p) c.in_ok-locator-in-1.ensures)
    (told_then _ _ _ (Vote c.in_ok-locator-in-1.locator) (vote c.args.s.now c.in_ok-locator-in-1.q) (λ v e found. refl) c.in_ok-vote-in-1.ensures)

pub returns-in_err-range-in-2 : goal.returns-in_err-range-in-2
unfolding answer then pick parser
returns-in_err-range-in-2 c =
    let v = told (number 4 c.args.s.now c.args.at) c.in_ok-variant.ensures in
    rw (c.from_residual-in_err-range-in-2.ensures, v, c.in-2.is, nothing (range c.args.s.now c.in_ok-variant.p) c.in_err-range-in-2.ensures)

pub returns-in_ok-range-in-2 : goal.returns-in_ok-range-in-2
unfolding answer then pick parser
returns-in_ok-range-in-2 c =
    let v = told (number 4 c.args.s.now c.args.at) c.in_ok-variant.ensures in
    rw (v, c.in-2.is, told (range c.args.s.now c.in_ok-variant.p) c.in_ok-range-in-2.ensures)

pub returns-in_default : goal.returns-in_default
unfolding answer then pick parser
returns-in_default c =
    let v = told (number 4 c.args.s.now c.args.at) c.in_ok-variant.ensures in
    let other = c.in_ok-variant.variant in
    rw (v, ne_eqb other 0 (λ z. omega arith), ne_eqb other 1 (λ z. omega arith), ne_eqb other 2 (λ z. omega arith))
