-- `decode` of a vote meets its contract. Assumes nothing.
use native.Mathlib.Omega.{arith}
use borrow.Author.Tests.{ne_eqb}
use mathlib.Core.Path.{◌≡◌, refl}
use Prim.Native.Nat.{ℕ}
use Rattle.std.proofs.Math.Option.{Option as Optional, none, some}
use Rattle.laws.specs.Pick.{pick}
use Rattle.laws.specs.Parse.{answer, then, number}
use Rattle.bincode.specs.Bincode.{option}
use Rattle.bincode.specs.Answers.{as_it_is, option_as}
use Rattle.bincode.proofs.Found.{told, nothing, told_none, told_then}
use Rattle.types.specs.declared.TransactionLocator.{TransactionLocator}
use Rattle.types.specs.Records.{locator, vote, reject}
use Rattle.votes.specs.declared.Vote.TheVariants.{Reject}
use Rattle.votes.specs.Answers.{vote_of}
use Rattle.votes.proofs.VoteDecode.decode.Goals as goal

reject_of : (p : ℕ) (o : Optional TransactionLocator) (e : ℕ) → Reject (option_as as_it_is p o e) ≡ vote_of (reject o)
reject_of p none e = refl
reject_of p (some l) e = refl

pub returns-in_err-variant : goal.returns-in_err-variant
unfolding answer then vote
returns-in_err-variant c = rw (c.from_residual.ensures, nothing (number 4 c.args.s.now c.args.at) c.in_err-variant.ensures)

pub returns-in-0 : goal.returns-in-0
unfolding answer then pick vote
returns-in-0 c = rw (told (number 4 c.args.s.now c.args.at) c.in_ok-variant.ensures, c.in-0.is)

pub returns-in_err-other-in-1 : goal.returns-in_err-other-in-1
unfolding answer then pick vote
returns-in_err-other-in-1 c =
    rw (
      c.from_residual-in_err-other-in-1.ensures,
      told (number 4 c.args.s.now c.args.at) c.in_ok-variant.ensures,
      c.in-1.is,
      told_none _ (option locator c.args.s.now c.in_ok-variant.p) c.in_err-other-in-1.ensures,
    )

pub returns-in_ok-other-in-1 : goal.returns-in_ok-other-in-1
unfolding answer then pick vote
returns-in_ok-other-in-1 c =
    rw (told (number 4 c.args.s.now c.args.at) c.in_ok-variant.ensures, c.in-1.is)
    (told_then _ _ _ Reject (option locator c.args.s.now c.in_ok-variant.p) (λ o e found. reject_of c.in_ok-variant.p o e) c.in_ok-other-in-1.ensures)

pub returns-in_default : goal.returns-in_default
unfolding answer then pick vote
returns-in_default c =
    let v = c.in_ok-variant.variant in
    rw (
      told (number 4 c.args.s.now c.args.at) c.in_ok-variant.ensures,
      ne_eqb v 0 (λ z. omega arith),
      ne_eqb v 1 (λ z. omega arith),
    )
