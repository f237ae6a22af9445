-- Worked examples of the definitions, by computation. Assumes nothing.
use mathlib.Core.Path.{◌≡◌, refl}
use mathlib.Core.List.{[], ◌∷◌, ◌++◌, map}
use Prim.Native.Nat.{ℕ, ◌-◌, ◌^◌}
use lib.ListN.{length, take}
use Rattle.laws.specs.Pick.{pick}
use Rattle.laws.specs.Ascii.{ascii}
use Rattle.laws.specs.Bytes.{bytes_at}
use Rattle.laws.specs.Numbers.{numbers_from}
use Rattle.laws.specs.Parse.{joined}
use Rattle.text.specs.Digits.{digits, decimal}
use Rattle.text.specs.Columns.{blanks, right, left, spaced}
use Rattle.replay.specs.Items.{is_payload}
use Rattle.replay.specs.Rules.{gather}
use Rattle.rows.specs.Rows.{compared, choose}
use Rattle.page_lines.specs.Lines.{line, heading, kind, author, round, row, number_line}
use Rattle.page_text.specs.Page.{parts_by, parts, text, page}
use Rattle.page_text.specs.Request01.{lines_of, number_from, number_in, block_at, payload_at, said, row_in, rows_in}

-- nothing is one part; three, four and six elements in parts of three
parts_of_three : (parts {A = ℕ} 3 [] ≡ [] ∷ [])
    × (map length (parts 3 (numbers_from 0 3)) ≡ 3 ∷ [])
    × (map length (parts 3 (numbers_from 0 4)) ≡ 3 ∷ 1 ∷ [])
    × (map length (parts 3 (numbers_from 0 6)) ≡ 3 ∷ 3 ∷ [])
unfolding parts parts_by pick numbers_from
parts_of_three = (refl, refl, refl, refl)

-- the number of a refusal
refusal_7 : number_line 7 ≡ blanks 12 ++ ascii "7" ++ blanks 59 ++ (10 ∷ [])
unfolding number_line line right left blanks decimal digits ascii
refusal_7 = refl

-- the widest row: the largest position, author and round that a row can have, up to its last column that is not blank
widest : take 47 (said (block_at (2 ^ 40 - 1) 127 (2 ^ 64 - 1))) ≡ ascii "1099511627775 block    127 18446744073709551615"
unfolding said spaced right left blanks decimal digits ascii
widest = refl

-- the row of a payload at 25
payload_25 : row (record { entry = record { start = 25; tag = 2; payload = [] }; item = is_payload })
    ≡ ascii "           25 payload" ++ blanks 51 ++ (10 ∷ [])
unfolding row line kind author round spaced right left blanks decimal digits ascii
payload_25 = refl

-- that row on a page with a blank line in the place of the foot, read back; and the same row one column to the left, which is none
read_back : (rows_in (page (10 ∷ []) ((ascii "           25 payload" ++ blanks 51 ++ (10 ∷ [])) ∷ [])) ≡ payload_at 25 ∷ [])
    × (row_in (ascii "          25 payload" ++ blanks 52) ≡ [])
unfolding rows_in row_in lines_of number_in number_from page text joined heading line said spaced right left blanks decimal digits ascii gather pick bytes_at compared choose
read_back = (refl, refl)
