-- The lines of the recovery page. Document 02, Req 01.
use Rattle.std.specs.Prelude.{List, [], ◌∷◌, ◌++◌, ℕ, length}
use Rattle.laws.specs.Ascii.{ascii, line_feed}
use Rattle.text.specs.Digits.{decimal}
use Rattle.text.specs.Columns.{right, left, spaced}
use Rattle.wal.specs.Walk.{Stop}
use Rattle.listing.specs.Listing.{word}
use Rattle.replay.specs.Items.{Item, is_block, is_payload, is_own_block, is_state, is_commit, ReplayEntry}
use Rattle.replay.specs.Rules.{pending, unprocessed, committed}

-- "lines of exactly 72 columns", "filled with blanks up to 72"; "with the listing's .. line feeds": "Each line ends in one line feed"
-- (document 01)
unfoldable pub line : List ℕ → List ℕ
line v = left 72 v ++ (line_feed ∷ [])

-- "a heading `PENDING`"
unfoldable pub heading : List ℕ
heading = line (ascii "PENDING")

-- "kind `block` or `payload`"; nothing else is pending
unfoldable pub kind : Item → List ℕ
kind (is_block r) = ascii "block"
kind is_payload = ascii "payload"
kind (is_own_block next r) = []
kind is_state = []
kind (is_commit c) = []

-- "A payload leaves author and round blank."
unfoldable pub author : Item → List ℕ
author (is_block r) = decimal r.authority
author is_payload = []
author (is_own_block next r) = []
author is_state = []
author (is_commit c) = []

unfoldable pub round : Item → List ℕ
round (is_block r) = decimal r.round
round is_payload = []
round (is_own_block next r) = []
round is_state = []
round (is_commit c) = []

-- "one row per pending entry (position in 13, kind `block` or `payload` in 8, author in 3, round in 20, numbers to the right, one blank
-- between columns, filled with blanks up to 72)"
unfoldable pub row : ReplayEntry → List ℕ
row x =
    line
    (spaced (right 13 (decimal x.entry.start) ∷ left 8 (kind x.item) ∷ right 3 (author x.item) ∷ right 20 (round x.item) ∷ []))

-- "a foot with the recovery's counts of pending, unprocessed and committed in 13 each and the stop word, set likewise"
unfoldable pub foot : Stop → List ReplayEntry → List ℕ
foot w l =
    line
    (spaced
    (right 13 (decimal (length (pending l)))
    ∷ right 13 (decimal (length (unprocessed l)))
    ∷ right 13 (decimal (length (committed l)))
    ∷ word w
    ∷ []))

-- "A refused recovery prints only its number in 13, filled so."
unfoldable pub number_line : ℕ → List ℕ
number_line n = line (right 13 (decimal n))
