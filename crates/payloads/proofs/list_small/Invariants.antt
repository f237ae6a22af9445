-- `payloads::list_small` meets its contract. After i turns the lines of the first i payloads are put. Assumes nothing.
use Prim.Native.Nat.{◌≤◌}
use lib.ListN.{take}
use Rattle.laws.specs.Parse.{joined}
use Rattle.text.specs.Put.{Put}
use Rattle.payloads.specs.Small.{small_payloads, payload_line}
use Rattle.payloads.proofs.list_small.Given as goal

abbrev pub invariant-loop-i : goal.invariant-loop-i
invariant-loop-i l = (l.i ≤ 258) × Put 0 (joined payload_line (take l.i small_payloads)) l.initial.out l.out l.at
