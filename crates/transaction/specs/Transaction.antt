-- A transaction by its locator. Document 01, "Lookups": "transaction (only a Share gives one)".
use Rattle.std.specs.Prelude.{List, [], ◌∷◌, ℕ, zero, suc, ◌+◌, ◌-◌, length, get_or, Option, Some, None, Result, Ok, Err}
use Rattle.std.proofs.Math.Option.{Option as Optional, none, some}
use Rattle.refusal.specs.declared.Refusal.{Refusal}
use Rattle.refusal.specs.Refusals.{refusal_of, as_refused}
use Rattle.laws.specs.Bytes.{bytes_at}
use Rattle.laws.specs.Parse.{Res, bad, got, answer}
use Rattle.bincode.specs.declared.Cursor.{Cursor}
use Rattle.bincode.specs.Cursors.{next_element, after}
use Rattle.types.specs.declared.TransactionLocator.{TransactionLocator}
use Rattle.types.specs.Records.{StatementValue, share, vote_on, vote_range, statement, BlockValue, block}
use Rattle.blocks.specs.Answers as blocks
use Rattle.wal_position.specs.Checks.{unless}
use Rattle.store.specs.declared.BlockStore.{BlockStore}
use Rattle.store.specs.Store.{indexed, call_check}
use Rattle.block_reader.specs.Reading as reading
use Rattle.block_reader.specs.Reading.{BlockRead, block_at}
use Rattle.filters.specs.Filters.{by_reference}
use Rattle.query.specs.Query.{unloaded, counted}
use Rattle.transaction.specs.declared.FoundTransaction.{FoundTransaction}

-- the bytes of a Share end where the statement does; no other statement gives any
unfoldable pub share_of : Res StatementValue → Option Cursor
share_of bad = None
share_of (got (share bytes) e) = Some (record { at = e - length bytes; left = length bytes })
share_of (got (vote_on l v) e) = None
share_of (got (vote_range r) e) = None

-- the statement with this offset in a block's bytes; there is none past the last
unfoldable pub share_in : List ℕ → ℕ → Option Cursor
share_in s offset =
    answer None
    (λ (b : BlockValue) e. share_of (next_element statement s (after statement s offset (blocks.statement_block 0 b).statements)))
    (block s 0)

-- behind a block's place in the image
unfoldable pub placed : ℕ → Option Cursor → Option Cursor
placed at None = None
placed at (Some c) = Some (record { at = at + c.at; left = c.left })

-- of the row with the locator's reference, if there is one: the block is read, and its load counted, before the offset is looked at
unfoldable pub transaction_of : ℕ → List ℕ → ℕ → BlockStore → ℕ → List (List ℕ) → Result FoundTransaction Refusal
transaction_of k s used store offset [] = Ok (record { share = None; store = store })
transaction_of k s used store offset (r ∷ rows) = from (block_at k s used (get_or r 6 0))
  where
    from : BlockRead → Result FoundTransaction Refusal
    from (reading.BlockRead.refused n) = Err (refusal_of n)
    from (reading.BlockRead.got reference at n) =
        Ok (record { share = placed at (share_in (bytes_at s at n) offset); store = counted store (unloaded (r ∷ [])) })

-- `n` is the number of 1, 2 and 18, `chosen` the rows with the locator's reference
unfoldable pub transaction_answer : ℕ → ℕ → List ℕ → ℕ → BlockStore → ℕ → List (List ℕ) → Result FoundTransaction Refusal
transaction_answer n k s used store offset chosen =
    unless n as_refused (transaction_of k s used store offset chosen)

-- the call: k, the image and used, the store and its index, and the locator
abbrev pub get_transaction : ℕ → List ℕ → ℕ → BlockStore → List ℕ → TransactionLocator → Result FoundTransaction Refusal
get_transaction k image used store index locator =
    transaction_answer (call_check k used (length image) store index) k image used store locator.offset
    (by_reference locator.block (indexed store index))

-- ---- The transaction as bytes: `named` of an answer is `transaction_in` of the block's statements (proofs/Named.antt, `share_named`,
-- `transaction_named`)

-- "only a Share gives one"
unfoldable pub share_bytes : StatementValue → Optional (List ℕ)
share_bytes (share bytes) = some bytes
share_bytes (vote_on l v) = none
share_bytes (vote_range r) = none

-- the statement with this offset among a block's
unfoldable pub transaction_in : List StatementValue → ℕ → Optional (List ℕ)
transaction_in [] offset = none
transaction_in (v ∷ later) zero = share_bytes v
transaction_in (v ∷ later) (suc offset) = transaction_in later offset

-- the bytes of s that an answer names
unfoldable pub named : List ℕ → Option Cursor → Optional (List ℕ)
named s None = none
named s (Some c) = some (bytes_at s c.at c.left)
