-- `block_reader::plain_block` meets its contract: the decoder answers as the parser finds. Assumes nothing.
use mathlib.Core.Path.{ap}
use Rattle.laws.specs.Pick.{pick}
use Rattle.refusal.specs.Refusals.{refusal_of}
use Rattle.block_reader.specs.Reading.{read_of}
use Rattle.block_reader.proofs.Reading.{plain_undecoded, plain_decoded}
use Rattle.block_reader.proofs.plain_block.Goals as goal

pub returns-in_default : goal.returns-in_default
unfolding read_of refusal_of pick
returns-in_default c = ap read_of (plain_undecoded c.args.at c.args.payload.now c.in_default.ensures)

pub returns : goal.returns
unfolding read_of
returns c = ap read_of (plain_decoded c.args.at c.args.payload.now c.in-Some.ensures)
