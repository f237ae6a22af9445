-- `node_store::put_be` meets its contract. Assumes nothing.
use Rattle.std.proofs.Common.{ap, ◌∙◌}
use Rattle.laws.specs.Bytes.{written}
use Rattle.node_store.proofs.Stores.{bytes_high_first-be}
use Rattle.node_store.proofs.put_be.Goals as goal

pub returns : goal.returns
returns c =
    let a = c.args in
    c.put_bytes.ensures ∙ ap (written a.digest a.at) (c.to_be_bytes.ensures ∙ bytes_high_first-be 8 a.x)
