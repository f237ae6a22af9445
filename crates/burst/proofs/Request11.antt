-- Request 11: four damaged bytes never pass, and five may. Assumes nothing.
use mathlib.Core.Path.{◌≡◌, ap}
use Prim.Native.Nat.{ℕ}
use native.Mathlib.Omega.{arith}
use Rattle.laws.specs.Ascii.{ascii}
use Rattle.wal_reader.specs.Answers.{entry_of, found_of, read_answer}
use Rattle.refusal.specs.Refusals.{refusal_of}
use Rattle.std.proofs.Common.{Err}
use Rattle.burst.specs.Burst.{Request11}
use Rattle.burst.specs.Limits.{reads_as, FivePass}
use Rattle.burst.proofs.Reading.{read_detects}
use Rattle.burst.proofs.Walking.{walk_detects}
use Rattle.burst.proofs.Limits.{sample, with_five, sample_reads, with_five_reads, sample_bytes, with_five_bytes, five_burst}

pub request_11 : Request11
request_11 = (read_detects, walk_detects)

pub five_pass : FivePass
unfolding reads_as found_of entry_of ascii
five_pass detects =
    let refused : read_answer 6 with_five 25 0 ≡ Err (refusal_of 7) =
    detects 6 sample sample_bytes 25 0 _ (ap found_of sample_reads) with_five with_five_bytes five_burst in
    let found = ap found_of with_five_reads in
    let z : ◌≡◌ {A = ℕ} 0 1 = cc in
    omega arith
