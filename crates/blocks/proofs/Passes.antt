-- The includes and the statements that a pass over a decoded block gives are those of the block. Assumes nothing.
use mathlib.Core.Path.{◌≡◌, ap, ◌∙◌}
use mathlib.Core.List.{List}
use Prim.Native.Nat.{ℕ, ◌+◌, ◌*◌, ◌<◌}
use native.Mathlib.Omega.{arith}
use lib.ListN.{length, get_or}
use Rattle.laws.specs.Parse.{got, number, many}
use Rattle.laws.proofs.Parses.{then_found, got_value}
use Rattle.bincode.specs.Bincode.{bool, vec}
use Rattle.bincode.specs.Cursors.{next_element, after}
use Rattle.bincode.proofs.Rules.{vec_run}
use Rattle.bincode.proofs.Cursors.{step_at}
use Rattle.crypto.specs.Records.{signature}
use Rattle.types.specs.declared.BlockReference.{BlockReference}
use Rattle.types.specs.Records.{reference, statement, StatementValue, block, BlockValue}
use Rattle.types.proofs.References.{reference_width, references_listed, include_at}
use Rattle.blocks.specs.Answers.{statement_block}

-- the elements of both lists stand in a row at the places that the decoder answers
pub record Runs (s : List ℕ) (p : ℕ) (b : BlockValue) : Type 0 where
  pub includes_end : ℕ
  pub includes : many reference (length b.includes) s (p + 64) ≡ got b.includes includes_end
  pub statements_end : ℕ
  pub statements : many statement (length b.statements) s (p + 72 + 56 * length b.includes) ≡ got b.statements statements_end

pub runs : (s : List ℕ) (p : ℕ) {b : BlockValue} {e : ℕ} → block s p ≡ got b e → Runs s p b
unfolding block
runs s p {b} {e} h =
    let r = then_found (reference s p) h in
    let is = then_found (vec reference s r.1) r.3 in
    let ss = then_found (vec statement s is.1) is.3 in
    let low = then_found (number 8 s ss.1) ss.3 in
    let high = then_found (number 8 s low.1) low.3 in
    let m = then_found (bool s high.1) high.3 in
    let g = then_found (signature s m.1) m.3 in
    let value : ◌≡◌ {A = BlockValue} (record {
      reference = r.0;
      includes = is.0;
      statements = ss.0;
      time_low = low.0;
      time_high = high.0;
      epoch_marker = m.0;
      signature = g.0;
    }) b = got_value g.3 in
    let these : is.0 ≡ b.includes = ap (λ (v : BlockValue). v.includes) value in
    let those : ss.0 ≡ b.statements = ap (λ (v : BlockValue). v.statements) value in
    let first : r.1 + 8 ≡ p + 64 = omega (arith, reference_width s p r.0 r.1 r.2) in
    let second : is.1 + 8 ≡ p + 72 + 56 * length is.0 =
    omega (arith, reference_width s p r.0 r.1 r.2, references_listed s r.1 is.2) in
    record {
      includes_end = is.1;
      includes = vec_run reference s r.1 is.2 these first;
      statements_end = ss.1;
      statements = vec_run statement s is.1 ss.2 those (second ∙ ap (λ (l : List BlockReference). p + 72 + 56 * length l) these);
    }

module _ (s : List ℕ) (p : ℕ) {b : BlockValue} {e : ℕ} (h : block s p ≡ got b e) (i : ℕ) where
  -- the i-th include, at once and by steps
  pub block_include : (d : BlockReference) → i < length b.includes
      → reference s (p + 64 + 56 * i) ≡ got (get_or b.includes i d) (p + 64 + 56 * (i + 1))
  block_include d l = include_at s i (length b.includes) (p + 64) (runs s p h).includes d l

  pub block_include_step : (d : BlockReference) → i < length b.includes
      → (q : ℕ) × (next_element reference s (after reference s i (statement_block p b).includes) ≡ got (get_or b.includes i d) q)
  block_include_step d l = step_at reference s i (statement_block p b).includes (runs s p h).includes d l

  -- the i-th statement
  pub block_statement_step : (d : StatementValue) → i < length b.statements
      → (q : ℕ) × (next_element statement s (after statement s i (statement_block p b).statements) ≡ got (get_or b.statements i d) q)
  block_statement_step d l = step_at statement s i (statement_block p b).statements (runs s p h).statements d l
