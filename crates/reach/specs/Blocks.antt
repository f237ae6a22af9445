-- Blocks of the index, each with its row's round. Document 01, "Lookups": "all below the later block indexed, each by the reference in the
-- block read".
use Rattle.std.specs.Prelude.{List, [], ◌∷◌, ℕ, get_or}
use Rattle.laws.specs.Bytes.{bytes_at}
use Rattle.types.specs.declared.BlockReference.{BlockReference}
use Rattle.block_reader.specs.Reading as reading
use Rattle.block_reader.specs.Reading.{BlockRead, block_at}
use Rattle.filters.specs.Filters.{round_of}
use Rattle.includes.specs.Includes.{includes_of}

-- an indexed block: the round of its row, and the reference and the includes in the block read
pub record Indexed : Type 0 where
  pub round : ℕ
  pub reference : BlockReference
  pub includes : List BlockReference

-- the blocks of some rows, in order, or the number of the first that cannot be read
pub data Reads : Type 0 where
  failed : ℕ → Reads
  all : List Indexed → Reads

unfoldable pub also : Indexed → Reads → Reads
also b (failed n) = failed n
also b (all blocks) = all (b ∷ blocks)

-- a block of a row of this round, and those behind it
unfoldable pub block_then : List ℕ → ℕ → BlockRead → Reads → Reads
block_then s round (reading.BlockRead.refused n) rest = failed n
block_then s round (reading.BlockRead.got r at n) rest = also (record { round = round; reference = r; includes = includes_of (bytes_at s at n) }) rest

unfoldable pub read_blocks : ℕ → List ℕ → ℕ → List (List ℕ) → Reads
read_blocks k s used [] = all []
read_blocks k s used (r ∷ rows) = block_then s (round_of r) (block_at k s used (get_or r 6 0)) (read_blocks k s used rows)
