-- `node_store::summary_of` meets its contract: field by field. Assumes nothing.
use mathlib.Core.Path.{◌≡◌, refl, ◌∙◌}
use mathlib.Core.Bool.{Bool, true, false, not}
use lib.Dec.{eqb}
use Rattle.std.specs.Prelude.{Some, None}
use Rattle.std.specs.Bool.{then_some}
use Rattle.laws.specs.Pick.{pick}
use Rattle.node_store.specs.Stores.{flagged, summary_in}
use Rattle.node_store.proofs.summary_of.Goals as goal

chosen : {A : Type 0} (t : Bool) (x : A) → then_some t x ≡ pick t (Some x) None
unfolding pick
chosen true x = refl
chosen false x = refl

pub returns : goal.returns
unfolding summary_in flagged
returns c =
    λ i.
    record {
      highest_round = c.word_at.ensures i;
      last_seen_by_authority = c.rounds_at.ensures i;
      last_own_block =
          (c.then_some-last_own_block.ensures
          ∙ chosen (not (eqb c.word_at-is_there.result 0)) c.reference_at.result
          ∙ (λ j. pick (not (eqb (c.word_at-is_there.ensures j) 0)) (Some (c.reference_at.ensures j)) None)) i;
    }
