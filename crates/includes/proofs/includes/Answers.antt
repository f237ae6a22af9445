-- `includes::includes` meets its contract: the loop compares one include after the other. Assumes nothing.
use mathlib.Core.Path.{◌∙◌}
use Prim.Native.Nat.{◌+◌, ◌*◌}
use Rattle.laws.specs.Parse.{number}
use Rattle.bincode.proofs.Found.{told, nothing}
use Rattle.types.specs.Records.{reference}
use Rattle.includes.proofs.Comparing.{compared}
use Rattle.includes.proofs.Including.{counted, including_start, including_there, including_found, including_next, including_none}
use Rattle.includes.proofs.includes.Goals as goal

pub returns-in_default : goal.returns-in_default
returns-in_default c =
    absurd (counted c.args.block.now c.requires (nothing (number 8 c.args.block.now 56) c.in_default.ensures))

pub loop-i-init : goal.loop-i-init
loop-i-init c =
    including_start c.args.block.now c.args.reference c.requires (told (number 8 c.args.block.now 56) c.in-Some.ensures)

pub returns-in_default-include_at : goal.returns-in_default-include_at
returns-in_default-include_at c =
    let none = nothing (reference c.args.block.now (c.in-Some.at + 56 * c.loop-i.i)) c.in_default-include_at.ensures in
    absurd (including_there c.loop-i.invariant c.loop-i-test.true c.args.reference none)

pub returns-then-eq : goal.returns-then-eq
returns-then-eq c =
    including_found c.loop-i.invariant c.loop-i-test.true (told (reference c.args.block.now (c.in-Some.at + 56 * c.loop-i.i)) c.in-Some-include_at.ensures)
    (c.eq.ensures ∙ compared c.args.reference c.in-Some-include_at.include) c.if-eq.true

pub loop-i-preserved : goal.loop-i-preserved
loop-i-preserved c =
    including_next c.loop-i.invariant c.loop-i-test.true (told (reference c.args.block.now (c.in-Some.at + 56 * c.loop-i.i)) c.in-Some-include_at.ensures)
    (c.eq.ensures ∙ compared c.args.reference c.in-Some-include_at.include) c.if-eq.false

pub returns : goal.returns
returns c = including_none c.loop-i.invariant c.loop-i-test.false
