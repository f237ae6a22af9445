-- `node_store::rounds_at` meets its contract. The loop's invariant: the first i words are copied. Assumes nothing.
use Rattle.std.proofs.Common.{◌≡◌, ℕ, ◌+◌, ◌<◌, get_or}
use Rattle.node_store.proofs.rounds_at.Given as goal

abbrev pub invariant-loop-i : goal.invariant-loop-i
invariant-loop-i l = (k : ℕ) → k < l.i → get_or l.round-items k 0 ≡ get_or l.words (l.at + k) 0
