-- Where the includes and the statements of a block stand. Assumes nothing.
use Rattle.std.proofs.Common.{Option, Some}
use mathlib.Core.Path.{◌≡◌}
use mathlib.Core.Bool.{Bool}
use mathlib.Core.List.{List}
use Prim.Native.Nat.{ℕ, ◌+◌, ◌*◌}
use native.Mathlib.Omega.{arith}
use lib.ListN.{length}
use Rattle.laws.specs.Parse.{got, answer, then, number}
use Rattle.bincode.specs.declared.Cursor.{Cursor}
use Rattle.bincode.specs.Bincode.{bool, vec}
use Rattle.bincode.specs.Answers.{decoded_as}
use Rattle.crypto.specs.declared.SignatureBytes.{SignatureBytes}
use Rattle.crypto.specs.Records.{signature}
use Rattle.types.specs.declared.BlockReference.{BlockReference}
use Rattle.types.specs.Records.{reference, statement, StatementValue, block}
use Rattle.types.proofs.References.{reference_width, references_listed}
use Rattle.blocks.specs.declared.StatementBlock.{StatementBlock}
use Rattle.blocks.specs.Answers.{statement_block}

-- the answer of the decoder, by what each step found
pub block_got : (s : List ℕ) (p : ℕ) {r : BlockReference} {e₁ : ℕ} → reference s p ≡ got r e₁
    → {is : List BlockReference} {e₂ : ℕ} → vec reference s e₁ ≡ got is e₂ → {i : Cursor} → i ≡ record { at = e₁ + 8; left = length is }
    → {ss : List StatementValue} {e₃ : ℕ} → vec statement s e₂ ≡ got ss e₃ → {j : Cursor} → j ≡ record { at = e₂ + 8; left = length ss }
    → {low e₄ : ℕ} → number 8 s e₃ ≡ got low e₄ → {high e₅ : ℕ} → number 8 s e₄ ≡ got high e₅
    → {m : Bool} {e₆ : ℕ} → bool s e₅ ≡ got m e₆ → {g : SignatureBytes} {e : ℕ} → signature s e₆ ≡ got g e
    → ◌≡◌ {A = Option (StatementBlock × ℕ)}
    (Some (
      record {
        reference = r;
        includes = i;
        statements = j;
        meta_creation_time_ns = record { low = low; high = high };
        epoch_marker = m;
        signature = g;
      },
      e,
    ))
    (decoded_as (λ b f. statement_block p b) (block s p))
unfolding answer then block
block_got s p {r} {e₁} h₁ {is} {e₂} h₂ i h₃ j h₄ h₅ h₆ h₇ =
    let width = reference_width s p r e₁ h₁ in
    let first : e₁ + 8 ≡ p + 64 = omega (arith, width) in
    let second : e₂ + 8 ≡ p + 72 + 56 * length is = omega (arith, width, references_listed s e₁ h₂) in
    rw (h₁, h₂, h₃, h₄, h₅, h₆, h₇, i, j, first, second)
