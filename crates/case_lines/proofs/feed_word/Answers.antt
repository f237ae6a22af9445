-- `case_lines::feed_word` meets its contract: the 8 bytes are those of the word. Assumes nothing.
use Rattle.std.proofs.Common.{ap, ◌∙◌}
use Rattle.laws.proofs.LittleEndian.{bytes_low_first-le}
use Rattle.checksum.specs.Crc32.{feed}
use Rattle.case_lines.proofs.feed_word.Goals as goal

pub returns : goal.returns
returns c =
    let a = c.args in
    c.update.ensures ∙ ap (feed a.register) (c.to_le_bytes.ensures ∙ bytes_low_first-le 8 a.w)
