-- `node_store::store_of` meets its contract: field by field. Assumes nothing.
use Rattle.node_store.specs.Stores.{store_of}
use Rattle.node_store.proofs.store_of.Goals as goal

pub returns : goal.returns
unfolding store_of
returns c =
    λ i.
    record {
      committee_size = c.word_at.ensures i;
      authority = c.word_at-2.ensures i;
      rows = c.word_at-3.ensures i;
      loads = c.word_at-4.ensures i;
      summary = c.summary_of-summary.ensures i;
    }
