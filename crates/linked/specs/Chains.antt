-- Chains of includes. Document 01, "Lookups": "Ancestor (`linked`), of the later block's bytes and the earlier's reference: equal
-- references, or a chain of includes down exactly one round a step, all below the later block indexed, each by the reference in the block
-- read".
use Rattle.std.specs.Prelude.{◌≡◌, ◌⊎◌, Bool, true, false, List, ◌∷◌, ℕ, zero, suc, eqb}
use Rattle.laws.specs.Pick.{pick}
use Rattle.types.specs.declared.BlockReference.{BlockReference}
use Rattle.types.specs.Records.{BlockValue}
use Rattle.includes.specs.References.{same, among, any}
use Rattle.reach.specs.Blocks.{Indexed}

-- ---- The relation

pub data In {A : Type 0} (x : A) : List A → Type 0 where
  first : {xs : List A} → In x (x ∷ xs)
  behind : {y : A} {xs : List A} → In x xs → In x (y ∷ xs)

-- from a block of the round `suc n` that includes `includes`, a step to the block of an index row of the round n, known by the reference
-- in the block read, and there the earlier block or a chain from that block on. That row and block agree is not asked.
pub data Chain (blocks : List Indexed) (earlier : BlockReference) : ℕ → List BlockReference → Type 0 where
  ends : {n : ℕ} {includes : List BlockReference} (b : Indexed) → In b blocks → b.round ≡ n → In b.reference includes
      → n ≡ earlier.round → b.reference ≡ earlier → Chain blocks earlier (suc n) includes
  goes : {n : ℕ} {includes : List BlockReference} (b : Indexed) → In b blocks → b.round ≡ n → In b.reference includes
      → Chain blocks earlier n b.includes → Chain blocks earlier (suc n) includes

abbrev pub Ancestor : List Indexed → BlockValue → BlockReference → Type 0
Ancestor blocks later earlier = (later.reference ≡ earlier) ⊎ Chain blocks earlier later.reference.round later.includes

-- ---- The relation as a test (proofs/Chains.antt, `ancestor_chain` and `chain_ancestor`)

unfoldable pub is_earlier : BlockReference → ℕ → Indexed → Bool
is_earlier earlier n b = pick (eqb n earlier.round) (same b.reference earlier) false

-- from a block of the round n with these includes
unfoldable pub reaches : List Indexed → BlockReference → ℕ → List BlockReference → Bool
reaches blocks earlier zero includes = false
reaches blocks earlier (suc n) includes =
    any (λ (b : Indexed).
    pick (eqb b.round n)
    (pick (among b.reference includes) (pick (is_earlier earlier n b) true (reaches blocks earlier n b.includes)) false)
    false) blocks

unfoldable pub is_ancestor : List Indexed → BlockValue → BlockReference → Bool
is_ancestor blocks later earlier =
    pick (same later.reference earlier) true (reaches blocks earlier later.reference.round later.includes)
