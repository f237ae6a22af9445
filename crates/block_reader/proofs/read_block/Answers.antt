-- `block_reader::read_block` meets its contract: an entry that a read finds lies in the image. Assumes nothing.
use mathlib.Core.Path.{ap, ◌∙◌}
use Rattle.refusal.proofs.Numbers.{handed_on}
use Rattle.block_reader.specs.Reading.{read_of}
use Rattle.block_reader.proofs.Reading.{read_refused, read_within, read_found}
use Rattle.block_reader.proofs.read_block.Goals as goal

pub returns-in_err-entry : goal.returns-in_err-entry
returns-in_err-entry c =
    let log = c.args.log.now in
    handed_on c.from_residual.result c.from_residual.ensures
    ∙ read_refused log.exponent log.image.now log.used c.args.position.0 c.in_err-entry.ensures

pub block_of-requires : goal.block_of-requires
block_of-requires c =
    let log = c.args.log.now in
    read_within log.exponent log.image.now log.used c.args.position.0 c.in_ok-entry.ensures

pub returns : goal.returns
returns c =
    let log = c.args.log.now in
    c.block_of.ensures
    ∙ ap read_of (read_found log.exponent log.image.now log.used c.args.position.0 c.in_ok-entry.ensures)
