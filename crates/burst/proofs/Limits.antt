-- The examples of what is not promised hold of the definitions, by computation. Assumes nothing.
use mathlib.Core.Path.{◌≡◌, refl, sym, ap, ◌∙◌, subst}
use mathlib.Core.List.{List, [], ◌∷◌, ◌++◌, map}
use Prim.Native.Nat.{ℕ, zero, suc, ◌%◌}
use native.Mathlib.Omega.{arith}
use lib.Dec.{lit<}
use lib.ListN.{length, get_or}
use Rattle.laws.specs.Pick.{pick}
use Rattle.laws.specs.Bytes.{AllBytes, bytes_at, written, le, of_le}
use Rattle.laws.specs.Ascii.{ascii}
use Rattle.laws.proofs.Written.{written_nothing, get_or_bytes_at}
use Rattle.checksum.specs.Crc32.{digits, number, plus, times, power, generator, reduce, remainder, message_bits, complement, crc32}
use Rattle.entry.specs.Entry.{entry_bytes, checksum_at, length_at, tag_at, payload_at}
use Rattle.wal_position.specs.Region.{region_start, next_region}
use Rattle.wal_position.specs.Checks.{log_check, unless}
use Rattle.wal_reader.specs.Look.{announced, look_at}
use Rattle.wal_reader.specs.Read.{Read, refused, read_of, read_at}
use Rattle.burst.specs.Burst.{Burst}
use Rattle.burst.specs.Limits.{Case, given, reads_as, five, cases}
use Rattle.burst.proofs.Images.{write_burst}

pub limits : map given cases ≡ map (λ (c : Case). c.stated) cases
unfolding pick bytes_at written le of_le ascii digits number plus times power generator reduce remainder message_bits complement crc32 entry_bytes checksum_at length_at tag_at payload_at region_start next_region log_check unless announced look_at read_of read_at given reads_as five cases
limits = refl

-- ---- Five bytes of the payload `123456789`

abbrev pub sample : List ℕ
sample = entry_bytes 2 (ascii "123456789")

abbrev pub with_five : List ℕ
with_five = written sample 16 five

-- the first two rows
pub sample_reads : read_at 6 sample 25 0 ≡ reads_as 2 (ascii "123456789")
unfolding given reads_as cases ascii
sample_reads = ap (λ (s : List ℕ). read_at 6 s 25 0) (sym (written_nothing sample 16)) ∙ ap (λ (l : List Read). get_or l 0 (refused 0)) limits

pub with_five_reads : read_at 6 with_five 25 0 ≡ reads_as 2 (five ++ ascii "6789")
unfolding given reads_as cases ascii
with_five_reads = ap (λ (l : List Read). get_or l 1 (refused 0)) limits

-- a number's lowest byte
lowest_byte : ℕ → ℕ
lowest_byte b = b % 256

all_low : (l : List ℕ) → AllBytes (map lowest_byte l)
unfolding lowest_byte
all_low [] i = lit< tt
all_low (b ∷ l) zero = omega arith
all_low (b ∷ l) (suc i) = all_low l i

computed : (map lowest_byte sample ≡ sample) × (map lowest_byte with_five ≡ with_five) × (length sample ≡ 25) × (length five ≡ 5)
    × (get_or sample 16 0 ≡ 0x31) × (get_or five 0 0 ≡ 0x70)
unfolding lowest_byte written le ascii digits number plus times power generator reduce remainder message_bits complement crc32 entry_bytes five
computed = (refl, refl, refl, refl, refl, refl)

pub sample_bytes : AllBytes sample
sample_bytes = subst AllBytes computed.0 (all_low sample)

pub with_five_bytes : AllBytes with_five
with_five_bytes = subst AllBytes computed.1 (all_low with_five)

pub five_burst : Burst 5 16 9 sample with_five
five_burst =
    write_burst sample 16 five (omega (arith, computed.2, computed.3)) 5 16 9 (omega (arith, computed.3)) (omega arith) (omega (arith, computed.3))
    (λ same. omega (arith, computed.4, computed.5, get_or_bytes_at sample 16 (length five) 0 (omega (arith, computed.3)), ap (λ (l : List ℕ). get_or l 0 0) same))
