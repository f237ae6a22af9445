-- The round trips of the records. Assumes nothing.
use mathlib.Core.Path.{◌≡◌, sym, ◌∙◌}
use mathlib.Core.List.{List, ◌++◌, append_assoc}
use Prim.Native.Nat.{ℕ, ◌+◌, ◌-◌, ◌≤◌}
use native.Mathlib.Omega.{arith}
use lib.ListN.{length, take, drop}
use lib.Seq.{drop_at, length-take-le}
use Rattle.laws.specs.Bytes.{bytes_at, written, AllBytes}
use Rattle.laws.specs.Parse.{Parser, got}
use Rattle.crypto.specs.Records.{digest, digest_bytes, signature, signature_bytes}
use Rattle.types.specs.Records.{reference, reference_bytes, locator, locator_bytes, range, range_bytes, vote, vote_bytes, statement, statement_bytes, block, block_bytes, payload, payload_bytes}
use Rattle.commits.specs.Records.{own_block, own_block_bytes, commit_data, commit_data_bytes, commit, commit_bytes}
use Rattle.roundtrip.specs.RoundTrip.{RoundTrip}
use Rattle.roundtrip.specs.Valid.{ValidDigest, ValidSignature, ValidReference, ValidLocator, ValidRange, ValidVote, ValidStatement, ValidBlock, ValidList, ValidOwnBlock, ValidCommit, ValidCommits}
use Rattle.roundtrip.proofs.Inverse.{Inverse}
use Rattle.roundtrip.proofs.Spans.{of_drop, between}
use Rattle.roundtrip.proofs.Blocks.{digest_inverse, signature_inverse, reference_inverse, locator_inverse, range_inverse, vote_inverse, statement_inverse, block_inverse, payload_inverse}
use Rattle.roundtrip.proofs.Commits.{own_block_inverse, commit_data_inverse, commit_inverse}

round_trip : {A : Type 0} {f : Parser A} {layout : A → List ℕ} {Valid : A → Type 0} → Inverse f layout Valid → RoundTrip f layout Valid
round_trip {layout = layout} inv =
    record {
      decodes = λ s at x rest v h. inv.decoded x v (of_drop s at (layout x) rest (inv.some x) h);
      encodes = λ s bytes p x e h.
          let l = inv.encoded bytes h in
          record { begins = omega (arith, l.spans.end); ends = l.spans.within; these = between l.spans; valid = l.valid };
    }

-- what was written decodes
pub written_decodes : {A : Type 0} {f : Parser A} {layout : A → List ℕ} {Valid : A → Type 0} → RoundTrip f layout Valid
    → (s : List ℕ) (at : ℕ) (x : A) → Valid x → at ≤ length s → f (written s at (layout x)) at ≡ got x (at + length (layout x))
unfolding written
written_decodes {layout = layout} r s at x v h =
    r.decodes (written s at (layout x)) at x (drop (at + length (layout x)) s) v
    (rw append_assoc (drop_at (take at s) (layout x ++ drop (at + length (layout x)) s) at (length-take-le at s h)))

-- accepted encodings are canonical: one value has one encoding
pub canonical : {A : Type 0} {f : Parser A} {layout : A → List ℕ} {Valid : A → Type 0} → RoundTrip f layout Valid
    → (s t : List ℕ) → AllBytes s → AllBytes t → (p q : ℕ) (x : A) (e g : ℕ) → f s p ≡ got x e → f t q ≡ got x g
    → bytes_at s p (e - p) ≡ bytes_at t q (g - q)
canonical r s t sb tb p q x e g h k = (r.encodes s sb p x e h).these ∙ sym (r.encodes t tb q x g k).these

pub digest_round_trip : RoundTrip digest digest_bytes ValidDigest
digest_round_trip = round_trip digest_inverse

pub signature_round_trip : RoundTrip signature signature_bytes ValidSignature
signature_round_trip = round_trip signature_inverse

pub reference_round_trip : RoundTrip reference reference_bytes ValidReference
reference_round_trip = round_trip reference_inverse

pub locator_round_trip : RoundTrip locator locator_bytes ValidLocator
locator_round_trip = round_trip locator_inverse

pub range_round_trip : RoundTrip range range_bytes ValidRange
range_round_trip = round_trip range_inverse

pub vote_round_trip : RoundTrip vote vote_bytes ValidVote
vote_round_trip = round_trip vote_inverse

pub statement_round_trip : RoundTrip statement statement_bytes ValidStatement
statement_round_trip = round_trip statement_inverse

pub block_round_trip : RoundTrip block block_bytes ValidBlock
block_round_trip = round_trip block_inverse

pub payload_round_trip : RoundTrip payload payload_bytes (ValidList ValidStatement)
payload_round_trip = round_trip payload_inverse

pub own_block_round_trip : RoundTrip own_block own_block_bytes ValidOwnBlock
own_block_round_trip = round_trip own_block_inverse

pub commit_data_round_trip : RoundTrip commit_data commit_data_bytes ValidCommit
commit_data_round_trip = round_trip commit_data_inverse

pub commit_round_trip : RoundTrip commit commit_bytes ValidCommits
commit_round_trip = round_trip commit_inverse
