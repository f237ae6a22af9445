-- `text::put_hex_bytes` meets its contract. After so many bytes their digits are put. Assumes nothing.
use Rattle.std.proofs.Common.{take}
use Rattle.text.specs.Digits.{hex_bytes}
use Rattle.text.specs.Put.{Put}
use Rattle.text.proofs.put_hex_bytes.Given as goal

abbrev pub invariant-loop-b : goal.invariant-loop-b
invariant-loop-b l = Put l.at (hex_bytes (take l.b-index l.bytes)) l.initial.out l.out l.next
