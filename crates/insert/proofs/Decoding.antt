-- The reference of the block in a payload, by what the code found. Assumes nothing.
use mathlib.Core.Path.{◌≡◌, refl, sym, ap}
use mathlib.Core.Bool.{Bool, true, false}
use mathlib.Core.List.{List}
use Prim.Native.Nat.{ℕ}
use lib.Dec.{eqb}
use borrow.Author.Tests.{eq-eqb, ne_eqb}
use Rattle.std.specs.Prelude.{Some, None, Ok, Err}
use Rattle.laws.specs.Pick.{pick}
use Rattle.laws.specs.Parse.{Res, bad, got, answer}
use Rattle.bincode.specs.Answers.{decoded_as}
use Rattle.bincode.proofs.Found.{told_as, told_none}
use Rattle.refusal.specs.declared.Refusal.{Refusal}
use Rattle.refusal.specs.declared.Refusal.TheVariants.{Block, OwnBlock}
use Rattle.refusal.specs.Refusals.{refusal_of}
use Rattle.refusal.specs.Tabled.{Tabled}
use Rattle.refusal.proofs.Numbers.{tabled}
use Rattle.types.specs.declared.BlockReference.{BlockReference}
use Rattle.types.specs.Records.{BlockValue, block}
use Rattle.blocks.specs.declared.StatementBlock.{StatementBlock}
use Rattle.blocks.specs.Answers.{statement_block}
use Rattle.commits.specs.declared.OwnBlockData.{OwnBlockData}
use Rattle.commits.specs.Records.{OwnBlockValue, own_block}
use Rattle.commits.specs.Answers.{own_block_of}
use Rattle.insert.specs.Insert.{Decoded, good, decoded_reference, reference_in}
use Rattle.insert.specs.Insert as definitions

module _ (tag : ℕ) (payload : List ℕ) where
  -- ---- A block

  module _ (one : tag ≡ 1) where
    pub block_undecoded : None ≡ decoded_as (λ b e. statement_block 0 b) (block payload 0)
        → decoded_reference tag payload ≡ definitions.Decoded.bad 9
    unfolding decoded_reference pick answer
    block_undecoded h = rw (eq-eqb tag 1 one, told_none _ (block payload 0) h)

    pub block_decoded : {b : StatementBlock} {e : ℕ} → Some (b, e) ≡ decoded_as (λ b e. statement_block 0 b) (block payload 0)
        → decoded_reference tag payload ≡ good b.reference
    unfolding decoded_reference pick answer
    block_decoded h =
        let found = told_as (λ b e. statement_block 0 b) (block payload 0) h in
        rw (eq-eqb tag 1 one, found.1) (ap (λ (b : StatementBlock). good b.reference) (sym found.2))

  -- ---- An own block

  module _ (other : tag ≡ 1 → ⊥) where
    pub own_undecoded : None ≡ decoded_as (λ o e. own_block_of 0 o) (own_block payload 0)
        → decoded_reference tag payload ≡ definitions.Decoded.bad 10
    unfolding decoded_reference pick answer
    own_undecoded h = rw (ne_eqb tag 1 other, told_none _ (own_block payload 0) h)

    pub own_decoded : {o : OwnBlockData} {e : ℕ} → Some (o, e) ≡ decoded_as (λ o e. own_block_of 0 o) (own_block payload 0)
        → decoded_reference tag payload ≡ good o.block.reference
    unfolding decoded_reference pick answer
    own_decoded h =
        let found = told_as (λ o e. own_block_of 0 o) (own_block payload 0) h in
        rw (ne_eqb tag 1 other, found.1) (ap (λ (o : OwnBlockData). good o.block.reference) (sym found.2))

-- ---- A refusal is of the table, so that its number tells which it is

pub either : {A : Type 0} (P : A → Type 0) (t : Bool) {x y : A} → P x → P y → P (pick t x y)
unfolding pick
either P true a b = a
either P false a b = b

abbrev pub DecodedTabled : Decoded → Type 0
DecodedTabled (definitions.Decoded.bad n) = Tabled n
DecodedTabled (good r) = Unit {0}

answer_tabled : {A : Type 0} (n : ℕ) (f : A → BlockReference) → Tabled n → (x : Res A)
    → DecodedTabled (answer (definitions.Decoded.bad n) (λ v e. good (f v)) x)
unfolding answer
answer_tabled n f h bad = h
answer_tabled n f h (got v e) = tt

pub block_tabled : (tag : ℕ) (payload : List ℕ) → DecodedTabled (decoded_reference tag payload)
unfolding decoded_reference
block_tabled tag payload =
    either DecodedTabled (eqb tag 1)
    (answer_tabled 9 (λ (b : BlockValue). b.reference) (tabled Block) (block payload 0))
    (answer_tabled 10 (λ (o : OwnBlockValue). o.block.reference) (tabled OwnBlock) (own_block payload 0))

-- ---- What the answer says

told_bad : (x : Decoded) {k : Refusal} → Err k ≡ reference_in x → (n : ℕ) × (x ≡ definitions.Decoded.bad n) × (k ≡ refusal_of n)
told_bad (definitions.Decoded.bad n) is = (n, refl, cc)
told_bad (good r) is = absurd (cc)

told_good : (x : Decoded) {r : BlockReference} → Ok r ≡ reference_in x → x ≡ good r
told_good (definitions.Decoded.bad n) is = absurd (cc)
told_good (good s) {r} is = let same : s ≡ r = cc in ap good same

module _ (tag : ℕ) (payload : List ℕ) where
  pub reference_bad : {k : Refusal} → Err k ≡ reference_in (decoded_reference tag payload)
      → (n : ℕ) × (decoded_reference tag payload ≡ definitions.Decoded.bad n) × (k ≡ refusal_of n)
  reference_bad = told_bad (decoded_reference tag payload)

  pub reference_good : {r : BlockReference} → Ok r ≡ reference_in (decoded_reference tag payload) → decoded_reference tag payload ≡ good r
  reference_good = told_good (decoded_reference tag payload)
