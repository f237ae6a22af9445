-- The bytes that stand for a block and for a payload. Assumes nothing.
use mathlib.Core.Path.{◌≡◌, ap}
use mathlib.Core.Bool.{Bool, true, false}
use mathlib.Core.List.{List, ◌++◌, append_assoc}
use mathlib.Core.Option.{none, some}
use Prim.Native.Nat.{ℕ, ◌+◌}
use native.Mathlib.Omega.{arith}
use lib.ListN.{length, length-append}
use Rattle.laws.specs.Bytes.{le, AllBytes}
use Rattle.laws.specs.Parse.{many}
use Rattle.laws.proofs.LittleEndian.{length_le}
use Rattle.bincode.specs.Bincode.{bool_bytes}
use Rattle.crypto.specs.Records.{signature_bytes}
use Rattle.types.specs.Records.{reference, reference_bytes, statement, block_bytes, payload_bytes}
use Rattle.put_records.proofs.Lengths.{length_bool, length_counted, length_signature, reference_size}
use Rattle.roundtrip.proofs.Blocks.{reference_inverse, statement_inverse}
use Rattle.roundtrip.proofs.Wholes.{list_bytes}
use Rattle.encode_blocks.specs.declared.BlockFields.{BlockFields}
use Rattle.encode_blocks.specs.Whole.{whole, is_whole, laid_out}
use Rattle.encode_blocks.specs.Blocks.{block_from, head_bytes, tail_bytes}
use Rattle.encode_blocks.proofs.Wholes.{whole_none, whole_some}

-- the payload of statements that are told to be n
pub payload_laid : (n : ℕ) (s : List ℕ) {test : Bool} → test ≡ is_whole (many statement n) s → test ≡ true → AllBytes s
    → laid_out payload_bytes (whole (many statement n) s) ≡ some (le 8 n ++ s)
unfolding payload_bytes
payload_laid n s told t bytes =
    let w = whole_some (many statement n) s told t in
    rw (w.2, list_bytes statement_inverse s bytes n w.1)

-- the bytes in two parts, as they are written
abbrev pub written_block : BlockFields → List ℕ → List ℕ → List ℕ
written_block b is ss = head_bytes b is ss ++ tail_bytes b

pub tail_length : (b : BlockFields) → length (tail_bytes b) ≡ 17 + length (signature_bytes b.signature)
tail_length b =
    let time = b.meta_creation_time_ns in
    let low = le 8 time.low in
    let high = le 8 time.high in
    let m = bool_bytes b.epoch_marker in
    omega (
      arith,
      length-append (low ++ high ++ m) (signature_bytes b.signature),
      length-append (low ++ high) m,
      length-append low high,
      length_le 8 time.low,
      length_le 8 time.high,
      length_bool b.epoch_marker,
    )

module _ (b : BlockFields) (is ss : List ℕ) where
  pub head_length : length (head_bytes b is ss) ≡ length (reference_bytes b.reference) + 16 + length is + length ss
  head_length =
      let r = reference_bytes b.reference in
      let i = le 8 b.include_count ++ is in
      let s = le 8 b.statement_count ++ ss in
      omega (arith, length-append (r ++ i) s, length-append r i, length_counted b.include_count is, length_counted b.statement_count ss)

  pub block_size : length b.reference.digest.0 ≡ 32 → length b.signature.0 ≡ 64
      → length (written_block b is ss) ≡ 161 + length is + length ss
  block_size d g =
      omega (
        arith,
        length-append (head_bytes b is ss) (tail_bytes b),
        head_length,
        tail_length b,
        reference_size b.reference d,
        length_signature b.signature,
      )

  -- lists that are told to have the numbers of elements that the block says
  module _ {ti ts : Bool} (told_is : ti ≡ is_whole (many reference b.include_count) is)
      (told_ss : ts ≡ is_whole (many statement b.statement_count) ss) where
    pub no_includes : ti ≡ false → laid_out block_bytes (block_from b is ss) ≡ none
    no_includes t = rw (whole_none (many reference b.include_count) is told_is t)

    pub no_statements : ti ≡ true → ts ≡ false → laid_out block_bytes (block_from b is ss) ≡ none
    no_statements t u =
        rw ((whole_some (many reference b.include_count) is told_is t).2, whole_none (many statement b.statement_count) ss told_ss u)

    pub block_laid : ti ≡ true → ts ≡ true → AllBytes is → AllBytes ss → laid_out block_bytes (block_from b is ss) ≡ some (written_block b is ss)
    unfolding block_bytes
    block_laid t u is_bytes ss_bytes =
        let i = whole_some (many reference b.include_count) is told_is t in
        let s = whole_some (many statement b.statement_count) ss told_ss u in
        rw (
          i.2,
          s.2,
          list_bytes reference_inverse is is_bytes b.include_count i.1,
          list_bytes statement_inverse ss ss_bytes b.statement_count s.1,
        )
        (ap some (simp append_assoc))
