-- Words put behind words, and the words of an answer's parts. Assumes nothing.
use mathlib.Core.Path.{◌≡◌, refl, sym, ap, ◌∙◌}
use mathlib.Core.Bool.{Bool, true, false}
use mathlib.Core.List.{List, [], ◌∷◌, ◌++◌, append-nil}
use Prim.Native.Nat.{ℕ, ◌+◌, ◌≤◌}
use mir.Val.{bool_byte}
use native.Mathlib.Nat.{add_assoc}
use native.Mathlib.Omega.{arith}
use lib.Dec.{lit≤}
use lib.ListN.{length, drop_of_length-le, length-append}
use Rattle.std.specs.Prelude.{Option, Some, None, Result, Ok, Err}
use Rattle.bincode.specs.declared.Cursor.{Cursor}
use Rattle.types.specs.declared.BlockReference.{BlockReference}
use Rattle.text.specs.Clipped.{clipped}
use Rattle.text.proofs.Clipped.{clipped_fits, then_clipped}
use Rattle.wal.specs.declared.Stop.{Stop}
use Rattle.wal.specs.declared.Stop.TheVariants.{End, Zeros, Torn}
use Rattle.wal.specs.declared.Walked.{Walked}
use Rattle.wal.specs.declared.RefusedAt.{RefusedAt}
use Rattle.index.specs.Keys.{key_words, digest_words}
use Rattle.index.specs.declared.StoreSummary.{StoreSummary}
use Rattle.recovered.specs.declared.Recovered.{Recovered}
use Rattle.node_words.specs.Words.{flag, stop_word, walked_words, span_words, found_words, head_words, summary_words, recovered_words}

-- a cast makes 1 of true and 0 of false
pub flag_is : (t : Bool) → bool_byte t ≡ flag t
unfolding flag
flag_is true = refl
flag_is false = refl

pub stop_small : (w : Stop) → stop_word w ≤ 2
unfolding stop_word
stop_small End = lit≤ tt
stop_small Zeros = lit≤ tt
stop_small Torn = lit≤ tt

-- the n words of a are put at p, and b behind them
pub behind : (s : List ℕ) (p n : ℕ) (a b : List ℕ) {t t' : List ℕ}
    → length a ≡ n → t ≡ clipped s p a → t' ≡ clipped t (p + n) b → t' ≡ clipped s p (a ++ b)
behind s p n a b e f g =
    g ∙ ap (λ (l : List ℕ). clipped l (p + n) b) f ∙ then_clipped s p (p + n) a b (ap (λ (m : ℕ). p + m) (sym e))

-- words put over as many
pub over_all : (s v : List ℕ) → length s ≡ length v → clipped s 0 v ≡ v
over_all s v h =
    clipped_fits s 0 v (omega (arith, h)) ∙ ap (λ (l : List ℕ). v ++ l) (drop_of_length-le s {i = 0 + length v} (omega (arith, h))) ∙ append-nil v

-- how many words each part has
pub long_walked : (w : Result Walked RefusedAt) → length (walked_words w) ≡ 5
unfolding walked_words
long_walked (Ok w) = refl
long_walked (Err at) = refl

pub long_head : (r : Recovered) → length (head_words r) ≡ 9
unfolding head_words
long_head r =
    length-append (walked_words r.walked) _ ∙ ap (λ (n : ℕ). n + 4) (long_walked r.walked)

pub long_span : (s : Option Cursor) → length (span_words s) ≡ 3
unfolding span_words
long_span None = refl
long_span (Some c) = refl

pub long_found : (f : Option BlockReference) → length (found_words f) ≡ 7
unfolding found_words key_words digest_words
long_found None = refl
long_found (Some r) = refl

-- the parts of a summary, put one behind the other
pub summary_put : (s : StoreSummary) (o : List ℕ) (p : ℕ) {o1 o2 o3 : List ℕ}
    → o1 ≡ clipped o p (found_words s.last_own_block)
    → o2 ≡ clipped o1 (p + 7) (s.highest_round ∷ [])
    → o3 ≡ clipped o2 (p + 8) s.last_seen_by_authority
    → o3 ≡ clipped o p (summary_words s)
unfolding summary_words
summary_put s o p {o1} {o2} e1 e2 e3 =
    behind o p 7 (found_words s.last_own_block) (s.highest_round ∷ s.last_seen_by_authority) (long_found s.last_own_block) e1
    (behind o1 (p + 7) 1 (s.highest_round ∷ []) s.last_seen_by_authority refl e2 (e3 ∙ ap (λ (q : ℕ). clipped o2 q s.last_seen_by_authority) (sym (add_assoc p 7 1))))

-- the parts of an answer
pub recovered_put : (r : Recovered) (o : List ℕ) {o1 o2 o3 o4 o5 o6 : List ℕ}
    → o1 ≡ clipped o 0 (head_words r)
    → o2 ≡ clipped o1 9 (span_words r.replay.last_own_block)
    → o3 ≡ clipped o2 12 (span_words r.replay.state)
    → o4 ≡ clipped o3 15 (span_words r.replay.committed_state)
    → o5 ≡ clipped o4 18 (found_words r.replay.last_committed_leader)
    → o6 ≡ clipped o5 25 (summary_words r.replay.blocks.summary)
    → o6 ≡ clipped o 0 (recovered_words r)
unfolding recovered_words
recovered_put r o {o1} {o2} {o3} {o4} {o5} e1 e2 e3 e4 e5 e6 =
    behind o 0 9 (head_words r) _ (long_head r) e1
    (behind o1 9 3 (span_words r.replay.last_own_block) _ (long_span r.replay.last_own_block) e2
    (behind o2 12 3 (span_words r.replay.state) _ (long_span r.replay.state) e3
    (behind o3 15 3 (span_words r.replay.committed_state) _ (long_span r.replay.committed_state) e4
    (behind o4 18 7 (found_words r.replay.last_committed_leader) (summary_words r.replay.blocks.summary) (long_found r.replay.last_committed_leader) e5 e6))))
