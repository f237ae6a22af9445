-- `decode` of an own block meets its contract. Assumes nothing.
use mathlib.Core.Path.{◌≡◌, ap}
use Prim.Native.Nat.{ℕ, ◌+◌}
use Rattle.laws.specs.Parse.{answer, then, number}
use Rattle.laws.proofs.Parses.{number_found}
use Rattle.bincode.proofs.Found.{told, nothing, told_none, told_then}
use Rattle.types.specs.Records.{block, BlockValue}
use Rattle.blocks.specs.declared.StatementBlock.{StatementBlock}
use Rattle.blocks.specs.Answers.{statement_block}
use Rattle.commits.specs.declared.OwnBlockData.{OwnBlockData}
use Rattle.commits.specs.Records.{own_block}
use Rattle.commits.proofs.OwnBlockDataDecode.decode.Goals as goal

own : ℕ → StatementBlock → OwnBlockData
own n b = record { next_entry = record { 0 = n }; block = b }

pub returns-in_err-position : goal.returns-in_err-position
unfolding answer then own_block
returns-in_err-position c = rw (c.from_residual.ensures, nothing (number 8 c.args.s.now c.args.at) c.in_err-position.ensures)

pub returns-in_err-block : goal.returns-in_err-block
unfolding answer then own_block
returns-in_err-block c =
    rw (
      c.from_residual-in_err-block.ensures,
      told (number 8 c.args.s.now c.args.at) c.in_ok-position.ensures,
      told_none _ (block c.args.s.now c.in_ok-position.p) c.in_err-block.ensures,
    )

pub returns : goal.returns
unfolding answer then own_block own
returns c =
    let s = c.args.s.now in
    let n = told (number 8 s c.args.at) c.in_ok-position.ensures in
    let place : c.in_ok-position.p ≡ c.args.at + 8 = (number_found 8 s c.args.at n).end in
    rw n
    (told_then _ _ _ (own c.in_ok-position.position) (block s c.in_ok-position.p)
    (λ (b : BlockValue) e found. ap (λ (k : ℕ). own c.in_ok-position.position (statement_block k b)) place) c.in_ok-block.ensures)
