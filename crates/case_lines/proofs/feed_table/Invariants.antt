-- `case_lines::feed_table` meets its contract: what the words that are left make of the register stays the same. Assumes nothing.
use Rattle.std.proofs.Common.{◌≡◌, drop}
use Rattle.laws.specs.Bytes.{le}
use Rattle.laws.specs.Parse.{joined}
use Rattle.checksum.specs.Crc32.{feed}
use Rattle.case_lines.proofs.feed_table.Given as goal

abbrev pub invariant-loop-word : goal.invariant-loop-word
invariant-loop-word l = feed l.c (joined (le 8) (drop l.word-index l.t)) ≡ feed l.register (joined (le 8) l.t)
