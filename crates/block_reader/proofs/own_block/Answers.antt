-- `block_reader::own_block` meets its contract: the decoder answers as the parser finds, and the block stands behind the 8 bytes of the next entry. Assumes nothing.
use mathlib.Core.Path.{ap}
use Rattle.laws.specs.Pick.{pick}
use Rattle.refusal.specs.Refusals.{refusal_of}
use Rattle.block_reader.specs.Reading.{read_of}
use Rattle.block_reader.proofs.Reading.{own_undecoded, own_decoded, own_long}
use Rattle.block_reader.proofs.own_block.Goals as goal

pub returns-in_default : goal.returns-in_default
unfolding read_of refusal_of pick
returns-in_default c = ap read_of (own_undecoded c.args.at c.args.payload.now c.in_default.ensures)

pub overflow_sub-result : goal.overflow_sub-result
overflow_sub-result c = own_long c.args.payload.now c.in-Some.ensures

pub returns : goal.returns
unfolding read_of
returns c = ap read_of (own_decoded c.args.at c.args.payload.now c.in-Some.ensures)
