-- For the proofs alone; no promise is stated with it. Rows of the page by the words of a table's rows, and the foot by counts.
use Rattle.std.specs.Prelude.{List, [], ◌∷◌, ◌++◌, ℕ, eqb, get_or}
use Rattle.laws.specs.Pick.{pick}
use Rattle.laws.specs.Ascii.{ascii, blank}
use Rattle.text.specs.Digits.{decimal}
use Rattle.text.specs.Columns.{blanks, right, left}
use Rattle.wal.specs.declared.Stop.{Stop}
use Rattle.listing.specs.Words.{word_of}
use Rattle.page_lines.specs.Lines.{line}

-- a number in 13 columns, and the blank behind it
unfoldable pub count_field : ℕ → List ℕ
count_field n = right 13 (decimal n) ++ (blank ∷ [])

-- the columns behind the position
unfoldable pub kind_field : ℕ → ℕ → ℕ → List ℕ
kind_field kind author round =
    pick (eqb kind 2) (left 8 (ascii "payload") ++ blanks 25)
    (left 8 (ascii "block") ++ (blank ∷ []) ++ right 3 (decimal author) ++ (blank ∷ []) ++ right 20 (decimal round))

unfoldable pub row_text : List ℕ → List ℕ
row_text w = line (count_field (get_or w 0 0) ++ kind_field (get_or w 1 0) (get_or w 3 0) (get_or w 2 0))

unfoldable pub foot_text : ℕ → ℕ → ℕ → Stop → List ℕ
foot_text p u c stop = line (count_field p ++ count_field u ++ count_field c ++ word_of stop)
