-- The ten marked cases hold of the definitions, by computation. Assumes nothing.
use mathlib.Core.Path.{◌≡◌, refl}
use mathlib.Core.List.{map}
use Rattle.laws.specs.Pick.{pick}
use Rattle.laws.specs.Bytes.{bytes_at, written, zeros, le, of_le}
use Rattle.laws.specs.Ascii.{ascii}
use Rattle.checksum.specs.Crc32.{digits, number, plus, times, power, generator, reduce, remainder, message_bits, complement, crc32}
use Rattle.text.specs.Digits as text
use Rattle.entry.specs.Entry.{entry_bytes, checksum_at, length_at, tag_at, payload_at}
use Rattle.wal_position.specs.Region.{region_start, next_region}
use Rattle.wal_position.specs.Checks.{log_check, unless}
use Rattle.wal_reader.specs.Entries.{end_of}
use Rattle.wal_writer.specs.Append.{start_for, within, place, image_after}
use Rattle.wal_reader.specs.Look.{announced, look_at}
use Rattle.wal.specs.Walk.{move, listing as listed, move_at, follow, walk_at, walk}
use Rattle.cut.specs.Cut.{used_after, answer_of, after_append, after, store_seen}
use Rattle.listing.specs.Listing.{line, entry_line, lines, word, stop_line, refused_line, end_line, walk_text, input_text, listing}
use Rattle.marked_cases.specs.Cases.{empty, given, stated, append, first, cases}

pub marked : map given cases ≡ map stated cases
unfolding pick bytes_at written zeros le of_le ascii digits number plus times power generator reduce remainder message_bits complement crc32 text.digits text.decimal text.hex_digit text.hex_digits text.hex8 entry_bytes checksum_at length_at tag_at payload_at region_start next_region log_check unless end_of start_for within place image_after announced look_at move listed move_at follow walk_at walk used_after answer_of after_append after store_seen line entry_line lines word stop_line refused_line end_line walk_text input_text listing empty given stated append first cases
marked = refl
