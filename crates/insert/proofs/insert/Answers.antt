-- `insert::insert` meets its contract: the checks are made in their order, and what passes them is logged and indexed. Assumes nothing.
use mathlib.Core.Path.{◌≡◌, ap, ◌∙◌}
use Prim.Native.Nat.{ℕ}
use lib.ListN.{length}
use Rattle.std.proofs.Common.{Err}
use Rattle.refusal.proofs.Numbers.{passed, not_passed, handed_on}
use Rattle.wal_writer.specs.Append.{accepted}
use Rattle.wal_writer.specs.Answers.{placed}
use Rattle.wal_writer.proofs.Places.{place_of_ok, place_of_err}
use Rattle.store.specs.Store.{call_check}
use Rattle.insert.proofs.Decoding.{reference_bad, reference_good}
use Rattle.insert.proofs.Inserting.{call_refused, place_refused, undecoded, decoded, inserts, refuses}
use Rattle.insert.proofs.insert.Goals as goal
use Rattle.insert.proofs.insert.Goals.{Start, In_ok-check, In_ok-position}

-- the number that the checks 1, 2 and 18 give
abbrev number : Start → ℕ
number c = let a = c.args in call_check a.writer.exponent a.writer.used (length a.image.now) a.store a.index.now

passes : (c : In_ok-check) → number (goal.at-In_ok-check c).Start ≡ 0
passes c = passed (number (goal.at-In_ok-check c).Start) c.in_ok-check.ensures

starts : (c : In_ok-position) → placed c.args.writer c.args.image.now c.args.payload.now ≡ accepted c.in_ok-position.position.0
starts c = place_of_ok (placed c.args.writer c.args.image.now c.args.payload.now) c.in_ok-position.ensures

pub returns-in_err-check : goal.returns-in_err-check
returns-in_err-check c =
    let a = c.args in
    let fails = not_passed (number (goal.at.returns-in_err-check c).Start) c.in_err-check.ensures in
    refuses a.writer a.store a.tag a.payload.now a.image.now a.index.now
    (call_refused a.writer (length a.image.now) a.store a.index.now a.tag a.payload.now fails.0)
    (handed_on c.from_residual.result c.from_residual.ensures ∙ ap Err fails.1)

pub returns-in_err-position : goal.returns-in_err-position
returns-in_err-position c =
    let a = c.args in
    let none = place_of_err (placed a.writer a.image.now a.payload.now) c.in_err-position.ensures in
    refuses a.writer a.store a.tag a.payload.now a.image.now a.index.now
    (place_refused a.writer (length a.image.now) a.store a.index.now a.tag a.payload.now (passes (goal.at.returns-in_err-position c).In_ok-check) none.1)
    (handed_on c.from_residual-in_err-position.result c.from_residual-in_err-position.ensures ∙ ap Err none.2)

pub returns-in_err-reference : goal.returns-in_err-reference
returns-in_err-reference c =
    let a = c.args in
    let at = goal.at.returns-in_err-reference c in
    let bad = reference_bad a.tag a.payload.now c.in_err-reference.ensures in
    refuses a.writer a.store a.tag a.payload.now a.image.now a.index.now
    (undecoded a.writer (length a.image.now) a.store a.index.now a.tag a.payload.now (passes at.In_ok-check) (starts at.In_ok-position) bad.1)
    (handed_on c.from_residual-in_err-reference.result c.from_residual-in_err-reference.ensures ∙ ap Err bad.2)

pub log_and_index-requires-clause-index_value : goal.log_and_index-requires-clause-index_value
log_and_index-requires-clause-index_value c = passes (goal.at.log_and_index-requires-clause-index_value c).In_ok-check

pub log_and_index-requires-clause-payload_value : goal.log_and_index-requires-clause-payload_value
log_and_index-requires-clause-payload_value c = starts (goal.at.log_and_index-requires-clause-payload_value c).In_ok-position

pub returns : goal.returns
returns c =
    let a = c.args in
    let at = goal.at.returns c in
    inserts a.writer a.store a.tag a.payload.now a.image.now a.index.now
    (decoded a.writer (length a.image.now) a.store a.index.now a.tag a.payload.now (passes at.In_ok-check) (starts at.In_ok-position)
    (reference_good a.tag a.payload.now c.in_ok-reference.ensures))
    c.log_and_index.ensures
