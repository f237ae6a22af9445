-- `encode_blocks::are_all` meets its contract. Assumes nothing.
use mathlib.Core.Path.{◌∙◌}
use Rattle.laws.specs.Parse.{many}
use Rattle.encode_blocks.proofs.Wholes.{ended}
use Rattle.encode_blocks.proofs.are_all.Goals as goal

pub returns : goal.returns
returns g c = c.eq.ensures ∙ rw c.past.ensures (ended (many g.T.Decode.parser c.args.n) c.args.s.now)
