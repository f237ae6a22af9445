-- `rows::rows_of` meets its contract. Assumes nothing.
use mathlib.Core.Path.{◌∙◌}
use Rattle.rows.proofs.Arrays.{first_rows}
use Rattle.rows.proofs.rows_of.Goals as goal

pub returns : goal.returns
returns c = c.as_chunks.ensures.front ∙ first_rows c.args.count c.args.t.now c.requires
