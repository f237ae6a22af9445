-- `node::kadzhomir_get_transaction` meets its contract: the answer of the call beneath, in words. Assumes nothing.
use Rattle.node.proofs.kadzhomir_get_transaction.Goals as goal

pub returns : goal.returns
returns c = rw (c.get_transaction-r.ensures, c.reference_at-block.ensures, c.view_of-view.ensures) at c.put_transaction.ensures
