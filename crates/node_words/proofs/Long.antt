-- How many words recovery answers: 161, whatever the log. Assumes nothing.
use mathlib.Core.Path.{◌≡◌, refl, ap, ap₂, ◌∙◌}
use mathlib.Core.List.{List, ◌++◌}
use Prim.Native.Nat.{ℕ, zero, suc, ◌+◌}
use lib.ListN.{length, length-append, length-replicate}
use Rattle.replay.specs.Items.{ReplayEntry}
use Rattle.replay.specs.Recovery.{Recovery, refused, recovered}
use Rattle.index.specs.declared.StoreSummary.{StoreSummary}
use Rattle.index.specs.Summary.{empty_summary}
use Rattle.state.specs.Tables.{last_seen_from, summary_of, blocks_of, replay_of, empty_replay}
use Rattle.recovered.specs.declared.Recovered.{Recovered}
use Rattle.recovered.specs.Answers.{refused_with}
use Rattle.replay_log.specs.Answers.{recovered_of}
use Rattle.node_words.specs.Words.{span_words, found_words, head_words, summary_words, recovered_words}
use Rattle.node_words.proofs.Words.{long_head, long_span, long_found}

long_behind : (a b : List ℕ) {n m : ℕ} → length a ≡ n → length b ≡ m → length (a ++ b) ≡ n + m
long_behind a b e f = length-append a b ∙ ap₂ (λ (n m : ℕ). n + m) e f

pub summary_long : (s : StoreSummary) → length s.last_seen_by_authority ≡ 128 → length (summary_words s) ≡ 136
unfolding summary_words
summary_long s h = long_behind (found_words s.last_own_block) _ (long_found s.last_own_block) (ap suc h)

pub words_long : (r : Recovered) → length r.replay.blocks.summary.last_seen_by_authority ≡ 128 → length (recovered_words r) ≡ 161
unfolding recovered_words
words_long r h =
    long_behind (head_words r) _ (long_head r)
    (long_behind (span_words r.replay.last_own_block) _ (long_span r.replay.last_own_block)
    (long_behind (span_words r.replay.state) _ (long_span r.replay.state)
    (long_behind (span_words r.replay.committed_state) _ (long_span r.replay.committed_state)
    (long_behind (found_words r.replay.last_committed_leader) _ (long_found r.replay.last_committed_leader)
    (summary_long r.replay.blocks.summary h)))))

last_seen_long : (a n : ℕ) (l : List ReplayEntry) → length (last_seen_from a n l) ≡ n
unfolding last_seen_from
last_seen_long a zero l = refl
last_seen_long a (suc n) l = ap suc (last_seen_long (suc a) n l)

-- the last seen rounds are 128
pub rounds_long_lem : (used own : ℕ) (x : Recovery) → length (recovered_of used own x).replay.blocks.summary.last_seen_by_authority ≡ 128
unfolding recovered_of refused_with empty_replay empty_summary replay_of blocks_of summary_of
rounds_long_lem used own (refused n p) = length-replicate {A = ℕ} 128 0
rounds_long_lem used own (recovered w e l) = last_seen_long 0 128 l

pub recovered_long : (used own : ℕ) (x : Recovery) → length (recovered_words (recovered_of used own x)) ≡ 161
recovered_long used own x = words_long (recovered_of used own x) (rounds_long_lem used own x)
