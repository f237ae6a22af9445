-- `node_store::reference_at` meets its contract: field by field. Assumes nothing.
use mathlib.Core.Path.{◌≡◌, ap, ◌∙◌}
use Prim.Native.Nat.{ℕ}
use native.Mathlib.Nat.{add-zero}
use lib.ListN.{get_or}
use Rattle.node_store.specs.Stores.{reference_at}
use Rattle.node_store.proofs.reference_at.Goals as goal

pub returns : goal.returns
unfolding reference_at
returns c =
    let a = c.args in
    let round : c.word_at-2.result ≡ get_or a.words.now a.at 0 = c.word_at-2.ensures ∙ ap (λ (p : ℕ). get_or a.words.now p 0) (add-zero a.at) in
    λ i. record { authority = c.word_at.ensures i; round = round i; digest = record { 0 = c.digest_at-digest.ensures i } }
