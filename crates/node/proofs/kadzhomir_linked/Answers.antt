-- `node::kadzhomir_linked` meets its contract: the answer in words, and the working rows. Assumes nothing.
use Rattle.node.proofs.kadzhomir_linked.Goals as goal

pub returns : goal.returns
returns c =
    let linked = c.linked-r.ensures in
    record {
      links = rw (linked.value, c.reference_at-x.ensures, c.view_of-view.ensures) at c.put_linked.ensures;
      work_after = linked.work_after;
    }
