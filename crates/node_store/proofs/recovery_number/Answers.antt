-- `node_store::recovery_number` meets its contract. Assumes nothing.
use borrow.Author.Tests.{lt-leb, le-leb}
use lib.ListN.{get_or}
use Rattle.laws.specs.Pick.{pick}
use Rattle.node_store.specs.Stores.{recovery_number}
use Rattle.node_store.proofs.recovery_number.Goals as goal

pub returns-then-number-gt19 : goal.returns-then-number-gt19
unfolding recovery_number pick
returns-then-number-gt19 c =
    let a = c.args in
    rw (lt-leb (get_or a.recovered.now 0 0) 19 c.if-number-gt19.true)

pub returns : goal.returns
unfolding recovery_number pick
returns c =
    let a = c.args in
    rw (le-leb (get_or a.recovered.now 0 0) 19 c.if-number-gt19.false)
