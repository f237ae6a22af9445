-- Reading a block. Document 01, the order of checks: "A query .. for each block it reads, in answer order, a read's numbers, 8, and 9 or
-- 10".
use Rattle.std.specs.Prelude.{List, ℕ, ◌+◌, ◌-◌, eqb, length, Result, Ok, Err}
use Rattle.refusal.specs.declared.Refusal.{Refusal}
use Rattle.refusal.specs.Refusals.{refusal_of}
use Rattle.laws.specs.Pick.{pick}
use Rattle.laws.specs.Parse.{answer}
use Rattle.types.specs.declared.BlockReference.{BlockReference}
use Rattle.types.specs.Records.{BlockValue, block}
use Rattle.commits.specs.Records.{OwnBlockValue, own_block}
use Rattle.wal_reader.specs.Entries.{Entry}
use Rattle.wal_reader.specs.Read as read
use Rattle.wal_reader.specs.Read.{found, read_at}
use Rattle.block_reader.specs.declared.ReadBlock.{ReadBlock}

-- the reference in the block, and the place and the number of its bytes in the image, trailing bytes of the payload with them
pub data BlockRead : Type 0 where
  refused : ℕ → BlockRead
  got : BlockReference → ℕ → ℕ → BlockRead

-- "a read's numbers, 8, and 9 or 10". 8: "for a block lookup, not 1 or 3". The block of an own block stands behind its 8-byte next entry.
-- The payload stands at `at`.
unfoldable pub plain_block : ℕ → List ℕ → BlockRead
plain_block at payload = answer (refused 9) (λ (b : BlockValue) e. got b.reference at (length payload)) (block payload 0)

unfoldable pub own_block_at : ℕ → List ℕ → BlockRead
own_block_at at payload =
    answer (refused 10) (λ (o : OwnBlockValue) e. got o.block.reference (at + 8) (length payload - 8)) (own_block payload 0)

unfoldable pub block_in : Entry → BlockRead
block_in a =
    pick (eqb a.tag 1) (plain_block (a.start + 16) a.payload)
    (pick (eqb a.tag 3) (own_block_at (a.start + 16) a.payload) (refused 8))

unfoldable pub block_at : ℕ → List ℕ → ℕ → ℕ → BlockRead
block_at k s used p = from (read_at k s used p)
  where
    from : read.Read → BlockRead
    from (read.Read.refused n) = refused n
    from (found a) = block_in a

-- the answer of the call
unfoldable pub read_of : BlockRead → Result ReadBlock Refusal
read_of (refused n) = Err (refusal_of n)
read_of (got r at n) = Ok (record { reference = r; bytes = record { at = at; left = n } })
