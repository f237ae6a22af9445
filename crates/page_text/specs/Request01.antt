-- What is proved of the page. Document 02, Req 01: "Prove that every line has its width and the rows are the pending entries, each once, in
-- order." The page is read back from its text alone: the lines by their line feeds, the rows by their columns.
use Rattle.std.specs.Prelude.{◌≡◌, List, [], ◌∷◌, ◌++◌, map, ℕ, ◌+◌, ◌-◌, ◌*◌, ◌≤◌, eqb, length, get_or}
use Rattle.laws.specs.Pick.{pick}
use Rattle.laws.specs.Ascii.{ascii, blank, line_feed}
use Rattle.laws.specs.Bytes.{AllBytes, bytes_at}
use Rattle.laws.specs.Parse.{joined}
use Rattle.text.specs.Digits.{decimal}
use Rattle.text.specs.Columns.{right, left, spaced}
use Rattle.rows.specs.Rows.{compared, choose}
use Rattle.wal.specs.Walk.{Stop}
use Rattle.replay.specs.Items.{Item, is_block, is_payload, is_own_block, is_state, is_commit, ReplayEntry}
use Rattle.replay.specs.Rules.{gather, pending}
use Rattle.replay.specs.Recovery.{Lent, refused, recovered, recover}
use Rattle.page_lines.specs.Lines.{heading, foot, number_line}
use Rattle.page_text.specs.Page.{parts, page_of, input_recovery, input_page}

-- ---- A text read back

-- the lines of a text, without their line feeds; what stands behind the last line feed, if anything does, is a line too
unfoldable pub lines_of : List ℕ → List (List ℕ)
lines_of [] = []
lines_of (b ∷ rest) = pick (eqb b line_feed) ([] ∷ lines_of rest) (begun (lines_of rest))
  where
    begun : List (List ℕ) → List (List ℕ)
    begun [] = (b ∷ []) ∷ []
    begun (l ∷ ls) = (b ∷ l) ∷ ls

-- the number in some columns, behind digits that have given n already; blanks are passed over
unfoldable pub number_from : ℕ → List ℕ → ℕ
number_from n [] = n
number_from n (d ∷ rest) = pick (eqb d blank) (number_from n rest) (number_from (10 * n + (d - 48)) rest)

unfoldable pub number_in : List ℕ → ℕ
number_in columns = number_from 0 columns

-- what a row says: position, author and round of a block, and the position of a payload. No entry of another kind is pending.
pub data PageRow : Type 0 where
  block_at : ℕ → ℕ → ℕ → PageRow
  payload_at : ℕ → PageRow
  no_row : PageRow

-- the line that says it: "position in 13, kind `block` or `payload` in 8, author in 3, round in 20, numbers to the right, one blank between
-- columns, filled with blanks up to 72"; "A payload leaves author and round blank"
unfoldable pub said : PageRow → List ℕ
said (block_at p a r) = left 72 (spaced (right 13 (decimal p) ∷ left 8 (ascii "block") ∷ right 3 (decimal a) ∷ right 20 (decimal r) ∷ []))
said (payload_at p) = left 72 (spaced (right 13 (decimal p) ∷ left 8 (ascii "payload") ∷ right 3 [] ∷ right 20 [] ∷ []))
said no_row = []

-- The row that stands on a line: position in columns 1 to 13, author in 24 to 26, round in 28 to 47 (columns of the text begin at 1, those
-- of `bytes_at` at 0). It counts where this line is the one that says it. A heading and a foot are no row.
unfoldable pub row_in : List ℕ → List PageRow
row_in l =
    where_said (block_at (number_in (bytes_at l 0 13)) (number_in (bytes_at l 23 3)) (number_in (bytes_at l 27 20)))
    ++ where_said (payload_at (number_in (bytes_at l 0 13)))
  where
    where_said : PageRow → List PageRow
    where_said r = choose (compared l (said r)) [] (r ∷ []) []

unfoldable pub rows_in : List ℕ → List PageRow
rows_in text = gather row_in (lines_of text)

-- what the row of a pending entry is to say
unfoldable pub shown : ReplayEntry → PageRow
shown x = from x.item
  where
    from : Item → PageRow
    from (is_block r) = block_at x.entry.start r.authority r.round
    from is_payload = payload_at x.entry.start
    from (is_own_block next r) = no_row
    from is_state = no_row
    from (is_commit c) = no_row

-- ---- The theorem

abbrev pub AllWide : List (List ℕ) → Type 0
AllWide [] = Unit
AllWide (l ∷ ls) = (length l ≡ 72) × AllWide ls

-- "every line has its width": 72 columns and one line feed, and nothing behind the last
pub record Wide (text : List ℕ) : Type 0 where
  pub columns : AllWide (lines_of text)
  pub feeds : text ≡ joined (λ (l : List ℕ). l ++ (line_feed ∷ [])) (lines_of text)

-- pages as lists of lines: each begins with the heading and ends with the foot `last`
abbrev pub AllPages : List ℕ → List (List (List ℕ)) → Type 0
AllPages last [] = Unit
AllPages last (ls ∷ more) =
    (get_or ls 0 [] ++ (line_feed ∷ []) ≡ heading) × (get_or ls (length ls - 1) [] ++ (line_feed ∷ []) ≡ last) × AllPages last more

-- of a recovery that is not refused
pub record Shows (text : List ℕ) (w : Stop) (l : List ReplayEntry) : Type 0 where
  -- "the rows are the pending entries, each once, in order", over all pages
  pub rows : rows_in text ≡ map shown (pending l)
  -- "A full page has 60 lines with its own heading and foot": each part of 60 lines; the last may have fewer
  pub pages : AllPages (foot w l) (parts 60 (lines_of text))
  -- how many lines: with the two fields above, no line but rows, headings and feet, and no page more than the rows need, at 58 a page
  pub lines : length (lines_of text) ≡ length (pending l) + 2 * length (parts 58 (pending l))
  -- "nothing pending prints one page"
  pub one : pending l ≡ [] → text ≡ heading ++ foot w l

-- for every image of bytes, every argument and any number of rows lent
pub record Request01 : Type 0 where
  pub width : (k : ℕ) (s : List ℕ) (used size own : ℕ) (lent : Lent) → AllBytes s → Wide (page_of (recover k s used size own lent))
  pub shows : (k : ℕ) (s : List ℕ) (used size own : ℕ) (lent : Lent) (w : Stop) (e : ℕ) (l : List ReplayEntry) → AllBytes s
      → recover k s used size own lent ≡ recovered w e l → Shows (page_of (recovered w e l)) w l
  -- the same of what the program prints
  pub input_width : (input : List ℕ) → AllBytes input → Wide (input_page input)
  pub input_shows : (input : List ℕ) (w : Stop) (e : ℕ) (l : List ReplayEntry) → AllBytes input → input_recovery input ≡ recovered w e l
      → Shows (input_page input) w l
  -- "A refused recovery prints only its number"
  pub input_refused : (input : List ℕ) (n p : ℕ) → input_recovery input ≡ refused n p → input_page input ≡ number_line n
  -- "with the listing's limits .. tables have 4,096 rows": no input within the limits needs more
  pub rows_enough : (input : List ℕ) (p : ℕ) → AllBytes input → input_recovery input ≡ refused 15 p → ⊥
  -- a buffer of 309,301 bytes has room for every input's page: 4,095 rows, one for each 16 bytes, 71 headings and 71 feet, 73 bytes each
  pub room : (input : List ℕ) → AllBytes input → length (input_page input) ≤ 309301
