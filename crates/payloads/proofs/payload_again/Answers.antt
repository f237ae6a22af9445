-- `payloads::payload_again` meets its contract: the statements that the decoder names are whole ones, as many as it says. Assumes nothing.
use mathlib.Core.Path.{◌≡◌, sym, ap}
use mathlib.Core.List.{List}
use Prim.Native.Nat.{◌+◌, ◌≤◌}
use native.Mathlib.Omega.{arith}
use lib.ListN.{length}
use Rattle.laws.specs.Bytes.{AllBytes}
use Rattle.laws.specs.Parse.{got}
use Rattle.bincode.specs.declared.Cursor.{Cursor}
use Rattle.bincode.proofs.Found.{told_as, told_none}
use Rattle.types.specs.Records.{StatementValue, payload}
use Rattle.encode.proofs.Encodings.{malformed}
use Rattle.payloads.proofs.Again.{none_again, statements_there, statements_again}
use Rattle.payloads.proofs.payload_again.Goals as goal
use Rattle.payloads.proofs.payload_again.Goals.{In-Some}

found : (c : In-Some) → (xs : List StatementValue) × (payload c.args.s.now 0 ≡ got xs c.in-Some.end)
    × (length xs ≡ c.in-Some.statements.left) × (c.in-Some.statements.at ≡ 0 + 8)
unfolding payload
found c =
    let t = told_as _ (payload c.args.s.now 0) c.in-Some.ensures in
    (t.0, t.1, ap (λ (l : Cursor). l.left) (sym t.2), ap (λ (l : Cursor). l.at) t.2)

bytes : (c : In-Some) → AllBytes c.args.s.now
bytes c i = omega (arith, c.type_inv.s i)

within : (c : In-Some) → (c.in-Some.statements.at ≤ c.in-Some.end) × (c.in-Some.end ≤ length c.args.s.now)
within c =
    let w = statements_there _ (bytes c) (found c).1 in
    (omega (arith, (found c).3, w.0), w.1)

pub returns-in_default : goal.returns-in_default
unfolding payload
returns-in_default c =
    let a = c.args in
    rw (none_again a.s.now (told_none _ (payload a.s.now 0) c.in_default.ensures))
    (malformed a.out.now 0)

pub slice_bounds-encode_payload-count : goal.slice_bounds-encode_payload-count
slice_bounds-encode_payload-count c = let w = within (goal.at.slice_bounds-encode_payload-count c).In-Some in omega (arith, w.0, w.1)

pub slice_bounds-encode_payload-start : goal.slice_bounds-encode_payload-start
slice_bounds-encode_payload-start c = let w = within (goal.at.slice_bounds-encode_payload-start c).In-Some in omega (arith, w.0, w.1)

pub slice_bounds-encode_payload-end : goal.slice_bounds-encode_payload-end
slice_bounds-encode_payload-end c = let w = within (goal.at.slice_bounds-encode_payload-end c).In-Some in omega (arith, w.0, w.1)

pub returns : goal.returns
returns c =
    let f = found (goal.at.returns c).In-Some in
    rw (statements_again _ (bytes (goal.at.returns c).In-Some) f.1 f.3 f.2) at c.encode_payload.ensures
