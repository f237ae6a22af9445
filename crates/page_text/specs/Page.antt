-- The recovery page. Document 02, Req 01: what is printed of a recovery, and of an input of the program.
use Rattle.std.specs.Prelude.{List, [], ◌∷◌, ◌++◌, map, ℕ, zero, suc, leb, length, take, drop}
use Rattle.laws.specs.Pick.{pick}
use Rattle.laws.specs.Parse.{joined}
use Rattle.replay.specs.Rules.{pending}
use Rattle.replay.specs.Recovery.{Lent, Recovery, refused, recovered, recover}
use Rattle.page_lines.specs.Lines.{heading, row, foot, number_line}

-- ---- Pages

-- a list in parts of n, which is not 0; the last may have fewer, and an empty list is one empty part. As many divisions as there are
-- elements are enough: `parts_last` and `parts_more` (proofs/Parts.antt) are the equations without them.
unfoldable pub parts_by : {A : Type 0} → ℕ → ℕ → List A → List (List A)
parts_by zero n l = l ∷ []
parts_by (suc fuel) n l = pick (leb (length l) n) (l ∷ []) (take n l ∷ parts_by fuel n (drop n l))

unfoldable pub parts : {A : Type 0} → ℕ → List A → List (List A)
parts n l = parts_by (length l) n l

-- lines one after the other
unfoldable pub text : List (List ℕ) → List ℕ
text lines = joined (λ (l : List ℕ). l) lines

-- "with its own heading and foot", of the rows' lines and the foot
unfoldable pub page : List ℕ → List (List ℕ) → List ℕ
page last rows = heading ++ text rows ++ last

-- "A full page has 60 lines with its own heading and foot; nothing pending prints one page.": 58 rows
unfoldable pub pages : List ℕ → List (List ℕ) → List ℕ
pages last rows = joined (page last) (parts 58 rows)

-- what is printed of a recovery
unfoldable pub page_of : Recovery → List ℕ
page_of (refused n p) = number_line n
page_of (recovered w e l) = pages (foot w l) (map row (pending l))

-- ---- The program's input

-- "tables have 4,096 rows"
unfoldable pub program_rows : Lent
program_rows = record { pending = 4096; unprocessed = 4096; committed = 4096; index = 4096 }

-- "A program reads k, committee size and own authority, a byte each (fewer give 1), then the image"
unfoldable pub read_input : List ℕ → Recovery
read_input [] = refused 1 0
read_input (k ∷ []) = refused 1 0
read_input (k ∷ size ∷ []) = refused 1 0
read_input (k ∷ size ∷ own ∷ image) = recover k image (length image) size own program_rows

-- "with the listing's limits": "within 65,536 bytes"; "longer input, of any k, with 2" (document 01)
unfoldable pub input_recovery : List ℕ → Recovery
input_recovery input = pick (leb (length input) 65536) (read_input input) (refused 2 0)

-- what the program prints
unfoldable pub input_page : List ℕ → List ℕ
input_page input = page_of (input_recovery input)
