-- The transaction of a row and of a call, by what the code found. Assumes nothing.
use mathlib.Core.Path.{◌≡◌, sym, ap, ap₂, ◌∙◌}
use mathlib.Core.List.{List, [], ◌∷◌}
use Prim.Native.Nat.{ℕ, ◌+◌, ◌≤◌}
use native.Mathlib.Nat.{add-zero}
use native.Mathlib.Omega.{arith}
use lib.Dec.{eqb}
use lib.ListN.{length, get_or}
use Rattle.std.specs.Prelude.{Option, Some, None, Ok, Err, MatchOption}
use Rattle.std.specs.Option.{IsSomeAnd}
use Rattle.laws.specs.Pick.{pick}
use Rattle.laws.specs.Bytes.{bytes_at}
use Rattle.laws.proofs.Written.{length_bytes_at}
use Rattle.refusal.specs.declared.Refusal.{Refusal}
use Rattle.refusal.specs.Refusals.{refusal_of}
use Rattle.types.specs.declared.BlockReference.{BlockReference}
use Rattle.wal_position.specs.declared.Log.{Log}
use Rattle.wal_position.specs.Logs.{of_log}
use Rattle.bincode.specs.declared.Cursor.{Cursor}
use Rattle.store.specs.declared.BlockStore.{BlockStore}
use Rattle.block_reader.specs.declared.ReadBlock.{ReadBlock}
use Rattle.block_reader.specs.Reading as reading
use Rattle.block_reader.specs.Reading.{block_at, read_of}
use Rattle.block_reader.proofs.Reading.{told_refused}
use Rattle.block_reader.proofs.Blocks.{block_got, block_within}
use Rattle.query.specs.Query.{unloaded, counted}
use Rattle.query.proofs.Collecting.{one_unloaded}
use Rattle.transaction.specs.Transaction.{share_in, placed, transaction_of}
use Rattle.transaction.proofs.Shares.{span_end, share_within}

-- a Share behind the block's place
pub placed_share : (at : ℕ) (t : Option Cursor) {x : Option Cursor} (P : Cursor → Cursor → Type 0) → MatchOption t (x ≡ None) (λ c. IsSomeAnd x (P c))
    → ((c d : Cursor) → P c d → d ≡ record { at = at + c.at; left = c.left }) → x ≡ placed at t
unfolding placed
placed_share at None P h is = h
placed_share at (Some c) {x = Some d} P h is = ap Some (is c d h)
placed_share at (Some c) {x = None} P h is = absurd h

-- one load is counted where the row is not loaded
one_load : (r : List ℕ) → unloaded (r ∷ []) ≡ pick (eqb (get_or r 7 0) 0) 1 0
unfolding unloaded
one_load r = one_unloaded r [] ∙ add-zero (pick (eqb (get_or r 7 0) 0) 1 0)

-- ---- The transaction of a row, by what the read of its block answered

module _ (log : Log) (store : BlockStore) (offset : ℕ) (r : List ℕ) where
  of_refused : {n : ℕ} → of_log block_at log (get_or r 6 0) ≡ reading.BlockRead.refused n
      → Err (refusal_of n) ≡ of_log transaction_of log store offset (r ∷ [])
  unfolding transaction_of
  of_refused is = sym (rw is)

  of_got : {reference : BlockReference} {at n : ℕ} → of_log block_at log (get_or r 6 0) ≡ reading.BlockRead.got reference at n
      → Ok (record { share = placed at (share_in (bytes_at log.image.now at n) offset); store = counted store (unloaded (r ∷ [])) })
      ≡ of_log transaction_of log store offset (r ∷ [])
  unfolding transaction_of
  of_got is = sym (rw is)

  pub row_refused : {e : Refusal} → Err e ≡ read_of (of_log block_at log (get_or r 6 0)) → Err e ≡ of_log transaction_of log store offset (r ∷ [])
  row_refused is =
      let told = told_refused (of_log block_at log (get_or r 6 0)) is in
      ap Err told.2 ∙ of_refused told.1

  module _ {b : ReadBlock} (is : Ok b ≡ read_of (of_log block_at log (get_or r 6 0))) where
    pub row_within : b.bytes.at + b.bytes.left ≤ length log.image.now
    row_within = block_within log.exponent log.image.now log.used (get_or r 6 0) is

    module _ {t : Option Cursor} (share_is : t ≡ share_in (bytes_at log.image.now b.bytes.at b.bytes.left) offset) where
      -- the Share lies in the image
      pub share_begins : {c : Cursor} → t ≡ Some c → b.bytes.at + c.at ≤ length log.image.now
      unfolding span_end
      share_begins {c} there =
          let end : c.at + c.left ≡ span_end (share_in (bytes_at log.image.now b.bytes.at b.bytes.left) offset) =
          ap span_end (sym there ∙ share_is) in
          omega (
            arith,
            end,
            row_within,
            share_within (bytes_at log.image.now b.bytes.at b.bytes.left) offset,
            length_bytes_at log.image.now b.bytes.at b.bytes.left row_within,
          )

      pub row_answer : {x : Option Cursor} → x ≡ placed b.bytes.at t → {n : ℕ} → n ≡ pick (eqb (get_or r 7 0) 0) 1 0
          → {u : BlockStore} → u ≡ counted store n
          → Ok (record { share = x; store = u }) ≡ of_log transaction_of log store offset (r ∷ [])
      row_answer {x} share_at loads {u} store_is =
          ap₂ (λ (x : Option Cursor) (u : BlockStore). Ok (record { share = x; store = u }))
          (share_at ∙ ap (placed b.bytes.at) share_is) (store_is ∙ ap (counted store) (loads ∙ sym (one_load r)))
          ∙ of_got (block_got log.exponent log.image.now log.used (get_or r 6 0) is)
