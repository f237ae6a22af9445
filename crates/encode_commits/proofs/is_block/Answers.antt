-- `encode_commits::is_block` meets its contract. Assumes nothing.
use Rattle.laws.specs.Parse.{answer}
use Rattle.bincode.proofs.Found.{told_as, told_none}
use Rattle.types.specs.Records.{block}
use Rattle.encode_blocks.specs.Whole.{is_whole}
use Rattle.encode_commits.proofs.is_block.Goals as goal

pub returns-in_default : goal.returns-in_default
unfolding is_whole answer
returns-in_default c = rw (told_none _ (block c.args.s.now 0) c.in_default.ensures)

pub returns : goal.returns
unfolding is_whole answer
returns c = rw (told_as _ (block c.args.s.now 0) c.in-Some.ensures).1
