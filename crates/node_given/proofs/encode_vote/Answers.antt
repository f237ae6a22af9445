-- `node_given::encode_vote` meets its contract: a kind that there is makes a vote. Assumes nothing.
use Rattle.encode.proofs.Encodings.{malformed}
use Rattle.node_given.proofs.encode_vote.Goals as goal

pub returns-in_default : goal.returns-in_default
returns-in_default c =
    let vote = rw c.locator_of.ensures at c.in_default.ensures in rw vote (malformed c.args.out.now c.args.at)

pub returns : goal.returns
returns c =
    let vote = rw c.locator_of.ensures at c.in-Some.ensures in
    rw vote (rw c.locator_of-2.ensures at c.encode_vote.ensures)
