-- What the decoder of a block answers. Includes and statements are answered by the places and the numbers of their elements: a block
-- at p has a reference of 56 bytes, a count of 8, references of 56 bytes each, and a count of 8 before its statements.
use Rattle.std.specs.Prelude.{ℕ, ◌+◌, ◌*◌, length}
use Rattle.types.specs.Records.{BlockValue}
use Rattle.blocks.specs.declared.StatementBlock.{StatementBlock}

abbrev pub statement_block : ℕ → BlockValue → StatementBlock
statement_block p b =
    record {
      reference = b.reference;
      includes = record { at = p + 64; left = length b.includes };
      statements = record { at = p + 72 + 56 * length b.includes; left = length b.statements };
      meta_creation_time_ns = record { low = b.time_low; high = b.time_high };
      epoch_marker = b.epoch_marker;
      signature = b.signature;
    }
