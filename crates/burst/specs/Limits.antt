-- What request 11 does not promise: changes after which an entry still reads, with another tag or payload. The rows with `refused 7` are
-- changes for which it does.
use Rattle.std.specs.Prelude.{List, [], ◌∷◌, ◌++◌, ℕ, ◌+◌, length, take, drop}
use Rattle.laws.specs.Bytes.{written}
use Rattle.laws.specs.Ascii.{ascii}
use Rattle.entry.specs.Entry.{entry_bytes}
use Rattle.wal_reader.specs.Read.{Read, found, refused, read_at}
use Rattle.burst.specs.Burst.{ReadDetects}

-- An entry of tag 2 alone in a log, at 0, with k = 6; bytes that are written over its own, from `at` on; and what a read at 0 gives then.
pub record Case : Type 0 where
  pub payload : List ℕ
  pub at : ℕ
  pub bytes : List ℕ
  pub stated : Read

unfoldable pub given : Case → Read
given c = read_at 6 (written (entry_bytes 2 c.payload) c.at c.bytes) (length c.payload + 16) 0

-- the read finds an entry at 0 with this tag and payload
unfoldable pub reads_as : ℕ → List ℕ → Read
reads_as tag payload = found (record { start = 0; tag = tag; payload = payload })

-- `12345` exclusive or 41 06 71 db 01. The first 33 of these bits, each byte's least significant first, are the coefficients of the
-- generator G(x) from x^32 to x^0, and the other seven are 0: a multiple of G(x), so that the checksum of `123456789` stays cbf43926.
unfoldable pub five : List ℕ
five = 0x70 ∷ 0x34 ∷ 0x42 ∷ 0xef ∷ 0x34 ∷ []

unfoldable pub cases : List Case
cases =
    -- unchanged
    record { payload = ascii "123456789"; at = 16; bytes = []; stated = reads_as 2 (ascii "123456789") }
    -- Five consecutive bytes still read. The first four of them alone are refused, and so is the fifth alone.
    ∷ record { payload = ascii "123456789"; at = 16; bytes = five; stated = reads_as 2 (five ++ ascii "6789") }
    ∷ record { payload = ascii "123456789"; at = 16; bytes = take 4 five; stated = refused 7 }
    ∷ record { payload = ascii "123456789"; at = 20; bytes = drop 4 five; stated = refused 7 }
    -- "The checksum covers neither length nor tag": the tag 2 becomes 3.
    ∷ record { payload = ascii "123456789"; at = 12; bytes = 3 ∷ []; stated = reads_as 3 (ascii "123456789") }
    -- One bit of the length field, 20 to 16; the payload's checksum is 0, that of the empty payload.
    ∷ record { payload = 0x9d ∷ 0x0a ∷ 0xd9 ∷ 0x6d ∷ []; at = 8; bytes = 16 ∷ []; stated = reads_as 2 [] }
    -- Payload and checksum together: another entry stands there. The payload's change alone is refused; it has one byte.
    ∷ record { payload = ascii "1"; at = 0; bytes = entry_bytes 2 (ascii "2"); stated = reads_as 2 (ascii "2") }
    ∷ record { payload = ascii "1"; at = 16; bytes = ascii "2"; stated = refused 7 }
    ∷ []

-- What request 11 promises of four bytes does not hold of five.
abbrev pub FivePass : Type 0
FivePass = ReadDetects 5 → ⊥
