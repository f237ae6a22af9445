-- `transaction::share_at` meets its contract: what the step answers tells the kind of the statement. Assumes nothing.
use mathlib.Core.Path.{sym, ap, ◌∙◌}
use Rattle.bincode.specs.Cursors.{next_element}
use Rattle.types.specs.Records as records
use Rattle.transaction.proofs.Shares.{share_of_statement, share_none, share_kind}
use Rattle.transaction.proofs.share_at.Goals as goal

pub returns-in_err-found : goal.returns-in_err-found
returns-in_err-found c = rw c.from_residual.ensures (share_none c.args.c (next_element records.statement c.args.block.now c.args.c) c.in_err-found.ensures)

pub returns-in-Share : goal.returns-in-Share
returns-in-Share c =
    ap share_of_statement (sym c.in-Share.is)
    ∙ share_kind c.args.c (next_element records.statement c.args.block.now c.args.c) c.in_ok-found.ensures

pub returns-in-Vote : goal.returns-in-Vote
returns-in-Vote c =
    ap share_of_statement (sym c.in-Vote.is)
    ∙ share_kind c.args.c (next_element records.statement c.args.block.now c.args.c) c.in_ok-found.ensures

pub returns-in-VoteRange : goal.returns-in-VoteRange
returns-in-VoteRange c =
    ap share_of_statement (sym c.in-VoteRange.is)
    ∙ share_kind c.args.c (next_element records.statement c.args.block.now c.args.c) c.in_ok-found.ensures
