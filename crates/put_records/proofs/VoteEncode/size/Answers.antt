-- `size` of a vote meets its contract. Assumes nothing.
use Rattle.std.proofs.Common.{Some, None}
use mathlib.Core.Path.{◌≡◌, sym, ap, ◌∙◌}
use borrow.Author.Rules.{rules}
use Rattle.votes.specs.declared.Vote.TheVariants.{Reject}
use Rattle.put_records.proofs.Lengths.{length_accept, length_reject, reject_other_size}
use Rattle.put_records.proofs.VoteEncode.size.Goals as goal

pub returns-in-Accept-clause-counted : goal.returns-in-Accept-clause-counted
returns-in-Accept-clause-counted c = rw c.in-Accept.is (sym length_accept)

pub returns-in-Reject-None-clause-counted : goal.returns-in-Reject-None-clause-counted
returns-in-Reject-None-clause-counted c =
    let told : c.args.self ≡ Reject None = c.in-Reject-None.is ∙ ap Reject (rw c.in-Reject-None.is at c.in-Reject-None.field-0-is) in
    rw told (sym length_reject)

pub returns-in-Reject-Some-clause-counted : goal.returns-in-Reject-Some-clause-counted
returns-in-Reject-Some-clause-counted c =
    let l = c.in-Reject-Some.field-0-0 in
    let told : c.args.self ≡ Reject (Some l) = c.in-Reject-Some.is ∙ ap Reject (rw c.in-Reject-Some.is at c.in-Reject-Some.field-0-is) in
    rw told (sym (reject_other_size l (search rules)))
