-- `node::kadzhomir_cleanup` meets its contract: the answer of the call beneath, in words. Assumes nothing.
use Rattle.node.proofs.kadzhomir_cleanup.Goals as goal

pub returns : goal.returns
returns c =
    let store = c.store_of-s.ensures in
    let cleanup = c.cleanup-cleaned.ensures in
    record {
      cleans = rw (cleanup.value, store) at c.put_cleaned.ensures;
      index_after = rw store at cleanup.index_after;
    }
