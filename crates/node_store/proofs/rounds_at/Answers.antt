-- `node_store::rounds_at` meets its contract. Assumes nothing.
use Rattle.std.proofs.Common.{arith}
use Rattle.node_store.proofs.Stores.{words_at-by_each}
use Rattle.node_store.proofs.rounds_at.Goals as goal

pub returns : goal.returns
returns c =
    let l = c.loop-i in
    words_at-by_each l.round-items c.args.words.now c.args.at 128 c.loop-i-test.array_long (λ k h. l.invariant k (omega arith))
