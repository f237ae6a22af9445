-- The bytes that an answer names are those of the Share with the offset among the block's statements, and it names none where the statement
-- is no Share or is not there. Assumes nothing.
use mathlib.Core.Path.{◌≡◌, refl, sym, ap, ◌∙◌}
use mathlib.Core.List.{List, [], ◌∷◌}
use mathlib.Core.Logic.{⊎_elim}
use mathlib.Core.Option.{none, some}
use Rattle.std.specs.Prelude.{Option, Some, None, Ok}
use Rattle.bincode.specs.declared.Cursor.{Cursor}
use Prim.Native.Nat.{ℕ, zero, suc, ◌+◌, ◌≤◌, ◌<◌}
use native.Mathlib.Omega.{arith}
use lib.ListN.{length, take, drop, get_or}
use lib.Seq.{drop-drop}
use Rattle.laws.specs.Bytes.{bytes_at, AllBytes}
use Rattle.laws.specs.Parse.{got, answer}
use Rattle.laws.proofs.Tests.{leb_cases}
use Rattle.laws.proofs.Written.{length_bytes_at, bytes_at_take}
use Rattle.bincode.specs.Cursors.{next_element, after}
use Rattle.bincode.proofs.Cursors.{step_past}
use Rattle.types.specs.declared.BlockReference.{BlockReference}
use Rattle.types.specs.Records.{StatementValue, share, statement, BlockValue, block}
use Rattle.blocks.specs.Answers.{statement_block}
use Rattle.blocks.proofs.Passes.{runs, block_statement_step}
use Rattle.store.specs.declared.BlockStore.{BlockStore}
use Rattle.block_reader.specs.Reading as reading
use Rattle.block_reader.specs.Reading.{block_at}
use Rattle.block_reader.proofs.Decoding.{Decoded, read_decodes}
use Rattle.query.specs.Query.{unloaded, counted}
use Rattle.transaction.specs.declared.FoundTransaction.{FoundTransaction}
use Rattle.transaction.specs.Transaction.{share_in, placed, transaction_of, share_bytes, transaction_in, named}
use Rattle.transaction.proofs.Shares.{given, span_end, next_lies, share_within}

-- ---- In a block's bytes

past_all : (ss : List StatementValue) (offset : ℕ) → length ss ≤ offset → transaction_in ss offset ≡ none
unfolding transaction_in
past_all [] offset h = refl
past_all (v ∷ ss) zero h = absurd (omega arith)
past_all (v ∷ ss) (suc offset) h = past_all ss offset (omega arith)

within_all : (ss : List StatementValue) (offset : ℕ) (d : StatementValue) → offset < length ss → transaction_in ss offset ≡ share_bytes (get_or ss offset d)
unfolding transaction_in
within_all [] offset d h = absurd (omega arith)
within_all (v ∷ ss) zero d h = refl
within_all (v ∷ ss) (suc offset) d h = within_all ss offset d (omega arith)

module _ (s : List ℕ) {b : BlockValue} {e : ℕ} (is : block s 0 ≡ got b e) (offset : ℕ) where
  given_is : given (next_element statement s (after statement s offset (statement_block 0 b).statements)) ≡ transaction_in b.statements offset
  unfolding given
  given_is =
      ⊎_elim
      (λ y.
      ap given (step_past statement s offset (statement_block 0 b).statements (runs s 0 is).statements y.1) ∙ sym (past_all b.statements offset y.1))
      (λ n.
      let at = block_statement_step s 0 is offset (share []) n.1 in
      ap given at.1 ∙ sym (within_all b.statements offset (share []) n.1))
      (leb_cases (length b.statements) offset)

  pub share_named : named s (share_in s offset) ≡ transaction_in b.statements offset
  unfolding share_in answer
  share_named = rw is ((next_lies s (after statement s offset (statement_block 0 b).statements)).names ∙ given_is)

-- ---- In the image

part_of_part : (s : List ℕ) (p n q m : ℕ) → q + m ≤ n → bytes_at (bytes_at s p n) q m ≡ bytes_at s (p + q) m
unfolding bytes_at
part_of_part s p n q m h = bytes_at_take (drop p s) n q m h ∙ ap (take m) (drop-drop q p s)

named_placed : (s : List ℕ) (at n : ℕ) (t : Option Cursor) → span_end t ≤ n → named s (placed at t) ≡ named (bytes_at s at n) t
unfolding named placed span_end
named_placed s at n None h = refl
named_placed s at n (Some c) h = ap (λ (l : List ℕ). some l) (sym (part_of_part s at n c.at c.left h))

-- what is answered for a row whose block was read: the block decodes at its place, with the reference that was read
pub record Names (k : ℕ) (s : List ℕ) (used : ℕ) (store : BlockStore) (offset : ℕ) (row : List ℕ) (r : BlockReference) (at n : ℕ) : Type 0 where
  pub block : Decoded s r at n
  pub found : FoundTransaction
  pub answer : transaction_of k s used store offset (row ∷ []) ≡ Ok found
  pub transaction : named s found.share ≡ transaction_in block.value.statements offset

pub transaction_named : (k : ℕ) (s : List ℕ) (used : ℕ) (store : BlockStore) (offset : ℕ) (row : List ℕ) → AllBytes s
    → {r : BlockReference} {at n : ℕ} → block_at k s used (get_or row 6 0) ≡ reading.BlockRead.got r at n
    → Names k s used store offset row r at n
unfolding transaction_of
transaction_named k s used store offset row all {r} {at} {n} is =
    let d : Decoded s r at n = read_decodes k s used (get_or row 6 0) all is in
    let t : Option Cursor = share_in (bytes_at s at n) offset in
    let lies : span_end t ≤ n = omega (arith, share_within (bytes_at s at n) offset, length_bytes_at s at n d.within) in
    record {
      block = d;
      found = record { share = placed at t; store = counted store (unloaded (row ∷ [])) };
      answer = rw is refl;
      transaction = named_placed s at n t lies ∙ share_named (bytes_at s at n) d.decodes offset;
    }
