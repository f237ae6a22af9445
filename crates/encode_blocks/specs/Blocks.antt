-- The block that an encoder is given: its fields, and its lists as bytes that a caller lends.
use Rattle.std.specs.Prelude.{List, ◌++◌, ℕ}
use Rattle.std.proofs.Math.Option.{Option, none, some}
use Rattle.laws.specs.Bytes.{le}
use Rattle.laws.specs.Parse.{many}
use Rattle.bincode.specs.Bincode.{bool_bytes}
use Rattle.crypto.specs.Records.{signature_bytes}
use Rattle.types.specs.declared.BlockReference.{BlockReference}
use Rattle.types.specs.Records.{reference, reference_bytes, statement, StatementValue, BlockValue}
use Rattle.encode_blocks.specs.declared.BlockFields.{BlockFields}
use Rattle.encode_blocks.specs.Whole.{whole}

abbrev pub block_value : BlockFields → List BlockReference → List StatementValue → BlockValue
block_value b is ss =
    record {
      reference = b.reference;
      includes = is;
      statements = ss;
      time_low = b.meta_creation_time_ns.low;
      time_high = b.meta_creation_time_ns.high;
      epoch_marker = b.epoch_marker;
      signature = b.signature;
    }

-- with both lists or not at all
abbrev pub block_with : BlockFields → Option (List BlockReference) → Option (List StatementValue) → Option BlockValue
block_with b none ss = none
block_with b (some is) none = none
block_with b (some is) (some ss) = some (block_value b is ss)

-- the block whose lists are those parsed, as many as the counts say
abbrev pub block_from : BlockFields → List ℕ → List ℕ → Option BlockValue
block_from b includes statements =
    block_with b (whole (many reference b.include_count) includes) (whole (many statement b.statement_count) statements)

-- its bytes up to the lists' end, and those behind them
abbrev pub head_bytes : BlockFields → List ℕ → List ℕ → List ℕ
head_bytes b includes statements =
    reference_bytes b.reference ++ (le 8 b.include_count ++ includes) ++ (le 8 b.statement_count ++ statements)

abbrev pub tail_bytes : BlockFields → List ℕ
tail_bytes b =
    le 8 b.meta_creation_time_ns.low ++ le 8 b.meta_creation_time_ns.high ++ bool_bytes b.epoch_marker ++ signature_bytes b.signature
