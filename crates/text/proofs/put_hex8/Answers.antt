-- `text::put_hex8` meets its contract: it is `put_hex` of eight digits. Assumes nothing.
use Rattle.text.specs.Digits.{hex8}
use Rattle.text.proofs.put_hex8.Goals as goal

pub returns : goal.returns
unfolding hex8
returns c = c.put_hex.ensures
