-- Rows read back from their lines, and what is read from a heading and a foot. Assumes nothing.
use mathlib.Core.Path.{◌≡◌, refl, ap, ap₂, ◌∙◌}
use mathlib.Core.Bool.{true}
use mathlib.Core.Logic.{inl, inr}
use mathlib.Core.List.{List, [], ◌∷◌, ◌++◌, map, append-nil, append_assoc}
use Prim.Native.Nat.{ℕ, zero, suc, ◌+◌, ◌-◌, ◌*◌, ◌/◌, ◌%◌, ◌≤◌, ◌<◌}
use native.Mathlib.Omega.{arith}
use native.Mathlib.Decide.{dec_lt}
use lib.Dec.{lit<, lit≤}
use lib.ListN.{length, length-append}
use lib.Seq.{take_at, drop_at}
use borrow.Author.Tests.{ne_eqb, ltb-true}
use Rattle.laws.specs.Pick.{pick}
use Rattle.laws.specs.Ascii.{ascii, blank}
use Rattle.laws.specs.Bytes.{bytes_at}
use Rattle.laws.proofs.Tests.{eqb_cases}
use Rattle.text.specs.Digits.{digits, decimal}
use Rattle.text.specs.Columns.{blanks, right, left, spaced}
use Rattle.text.proofs.Digits.{decimal_one, decimal_more}
use Rattle.text.proofs.Columns.{length_right, length_left}
use Rattle.std.specs.declared.cmp.Ordering.TheVariants.{Less, Greater}
use Rattle.rows.specs.Rows.{choose, compared}
use Rattle.rows.proofs.Lexicographic.{first_below, first_above, first_same, compared_self}
use Rattle.wal.specs.Walk.{Stop}
use Rattle.replay.specs.Items.{ReplayEntry}
use Rattle.replay.specs.Rules.{gather, pending, unprocessed}
use Rattle.replay.proofs.Applied.{gather_append}
use Rattle.page_text.specs.Page.{parts}
use Rattle.page_text.specs.Request01.{number_from, number_in, PageRow, block_at, payload_at, no_row, said, row_in}
use Rattle.page_text.proofs.Tested.{all, low, first_holds, low_right}
use Rattle.page_text.proofs.Sheets.{parts_gather, top, sheet, sheets}
use Rattle.page_text.proofs.Printed.{Fits, bottom}
use Rattle.page_text.proofs.Lines.{Each, none, both}

-- ---- Numbers

number_append : (n : ℕ) (a b : List ℕ) → number_from n (a ++ b) ≡ number_from (number_from n a) b
unfolding number_from pick
number_append n [] b = refl
number_append n (d ∷ a) b =
    elim (eqb_cases d blank) [
      | inl y ↦ rw y.0 (number_append n a b)
      | inr m ↦ rw m.0 (number_append (10 * n + (d - 48)) a b)
    ]

number_blanks : (n m : ℕ) → number_from n (blanks m) ≡ n
unfolding number_from blanks pick
number_blanks n zero = refl
number_blanks n (suc m) = number_blanks n m

-- one digit more
number_digit : (n d : ℕ) → number_from n ((48 + d) ∷ []) ≡ 10 * n + d
unfolding number_from pick
number_digit n d = rw (ne_eqb (48 + d) 32 (λ e. omega arith)) (omega arith)

number_by : (f n : ℕ) → n ≤ f → number_from 0 (decimal n) ≡ n
number_by zero n h = rw (decimal_one n (omega arith), number_digit 0 n) (omega arith)
number_by (suc f) n h =
    elim (dec_lt n 10) [
      | yes l ↦ rw (decimal_one n l, number_digit 0 n) (omega arith)
      | no l ↦
          rw (decimal_more n (omega arith), number_append, number_by f (n / 10) (omega arith), number_digit (n / 10) (n % 10)) (omega arith)
    ]

number_right : (w n : ℕ) → number_in (right w (decimal n)) ≡ n
unfolding number_in right
number_right w n = rw (number_append, number_blanks) (number_by n n (omega arith))

-- ---- Columns

column : (a c rest : List ℕ) (p n : ℕ) → length a ≡ p → length c ≡ n → bytes_at (a ++ (c ++ rest)) p n ≡ c
unfolding bytes_at
column a c rest p n h k = rw (drop_at a (c ++ rest) p h) (take_at c rest n k)

-- the last two columns of a row
columns : (a b c d : List ℕ) → length a ≡ 13 → length b ≡ 8 → length c ≡ 3 → length d ≡ 20
    → (bytes_at (left 72 (spaced (a ∷ b ∷ c ∷ d ∷ []))) 23 3 ≡ c) × (bytes_at (left 72 (spaced (a ∷ b ∷ c ∷ d ∷ []))) 27 20 ≡ d)
unfolding spaced left
columns a b c d h k m n =
    let whole = spaced (a ∷ b ∷ c ∷ d ∷ []) in
    let fill = blanks (72 - length whole) in
    let two = a ++ (blank ∷ (b ++ (blank ∷ []))) in
    let three = two ++ (c ++ (blank ∷ [])) in
    let third : whole ++ fill ≡ two ++ (c ++ (blank ∷ (d ++ fill))) = simp append_assoc in
    let fourth : whole ++ fill ≡ three ++ (d ++ fill) = simp append_assoc in (
      ap (λ (l : List ℕ). bytes_at l 23 3) third ∙ column two c (blank ∷ (d ++ fill)) 23 3 (simp length-append (omega arith)) m,
      ap (λ (l : List ℕ). bytes_at l 27 20) fourth ∙ column three d fill 27 20 (simp length-append (omega arith)) n,
    )

-- behind the same column and a blank
behind : (c a b : List ℕ) → compared (c ++ (blank ∷ a)) (c ++ (blank ∷ b)) ≡ compared a b
behind [] a b = first_same blank blank a b refl
behind (x ∷ c) a b = first_same x x (c ++ (blank ∷ a)) (c ++ (blank ∷ b)) refl ∙ behind c a b

-- ---- What stands on a line

-- by the numbers in its columns
row_by : (l : List ℕ) (p a r : ℕ) → number_in (bytes_at l 0 13) ≡ p → number_in (bytes_at l 23 3) ≡ a → number_in (bytes_at l 27 20) ≡ r
    → row_in l
    ≡ choose (compared l (said (block_at p a r))) [] (block_at p a r ∷ []) []
    ++ choose (compared l (said (payload_at p))) [] (payload_at p ∷ []) []
unfolding row_in
row_by l p a r h k m = rw (h, k, m)

-- A line that begins with a position. The byte behind the blank tells the kinds of lines apart: 98 begins `block`, and 112 `payload`.
module _ (p x : ℕ) (rest : List ℕ) where
  unfoldable begun : List ℕ
  begun = right 13 (decimal p) ++ (blank ∷ x ∷ rest)

  position : length (decimal p) ≤ 13 → number_in (bytes_at begun 0 13) ≡ p
  unfolding begun
  position h = rw (column [] (right 13 (decimal p)) (blank ∷ x ∷ rest) 0 13 refl (length_right 13 (decimal p) h)) (number_right 13 p)

  below_block : (a r : ℕ) → x < 98 → compared begun (said (block_at p a r)) ≡ Less
  unfolding begun said spaced left ascii
  below_block a r h = rw (append_assoc (right 13 (decimal p))) (behind (right 13 (decimal p)) _ _ ∙ first_below x 98 _ _ h)

  above_block : (a r : ℕ) → 98 < x → compared begun (said (block_at p a r)) ≡ Greater
  unfolding begun said spaced left ascii
  above_block a r h = rw (append_assoc (right 13 (decimal p))) (behind (right 13 (decimal p)) _ _ ∙ first_above x 98 _ _ h)

  below_payload : x < 112 → compared begun (said (payload_at p)) ≡ Less
  unfolding begun said spaced left ascii
  below_payload h = rw (append_assoc (right 13 (decimal p))) (behind (right 13 (decimal p)) _ _ ∙ first_below x 112 _ _ h)

  no_row_lem : length (decimal p) ≤ 13 → x < 98 → row_in begun ≡ []
  unfolding choose
  no_row_lem h k = row_by begun p _ _ (position h) refl refl ∙ rw (below_block _ _ k, below_payload (omega arith))

said_block : (p a r : ℕ) → (rest : List ℕ) × (said (block_at p a r) ≡ begun p 98 rest)
unfolding begun said spaced left ascii
said_block p a r = (_, append_assoc (right 13 (decimal p)) _ _)

said_payload : (p : ℕ) → (rest : List ℕ) × (said (payload_at p) ≡ begun p 112 rest)
unfolding begun said spaced left ascii
said_payload p = (_, append_assoc (right 13 (decimal p)) _ _)

numbers_back : (p a r : ℕ) → Fits (block_at p a r)
    → (number_in (bytes_at (said (block_at p a r)) 23 3) ≡ a) × (number_in (bytes_at (said (block_at p a r)) 27 20) ≡ r)
unfolding said ascii
numbers_back p a r h =
    let both =
    columns (right 13 (decimal p)) (left 8 (ascii "block")) (right 3 (decimal a)) (right 20 (decimal r)) (length_right 13 (decimal p) h.0)
    (length_left 8 (ascii "block") (lit≤ tt)) (length_right 3 (decimal a) h.1) (length_right 20 (decimal r) h.2) in
    (ap number_in both.0 ∙ number_right 3 a, ap number_in both.1 ∙ number_right 20 r)

-- a row is read back
said_back : (r : PageRow) → Fits r → row_in (said r) ≡ r ∷ []
unfolding choose
said_back (block_at p a r) h =
    let rest = (said_block p a r).0 in
    let is = (said_block p a r).1 in
    row_by (said (block_at p a r)) p a r (rw is (position p 98 rest h.0)) (numbers_back p a r h).0 (numbers_back p a r h).1
    ∙ rw (compared_self (said (block_at p a r)), is, below_payload p 98 rest (lit< tt))
said_back (payload_at p) h =
    let rest = (said_payload p).0 in
    let is = (said_payload p).1 in
    rw is
    (row_by (begun p 112 rest) p _ _ (position p 112 rest h) refl refl
    ∙ rw (above_block p 112 rest _ _ (lit< tt), is, compared_self (begun p 112 rest)))
said_back no_row h = absurd h

-- a heading is no row
top_back : row_in top ≡ []
unfolding top row_in number_in number_from bytes_at said left right spaced blanks decimal digits ascii compared choose pick
top_back = refl

-- a foot is none: behind a number it has a digit or a blank
number_back : (p : ℕ) (c rest fill : List ℕ) → length (decimal p) ≤ 13 → length c ≡ 13 → all low c ≡ true
    → row_in ((right 13 (decimal p) ++ (blank ∷ (c ++ rest))) ++ fill) ≡ []
unfolding all begun
number_back p [] rest fill h k l = absurd (omega arith)
number_back p (x ∷ c) rest fill h k l =
    rw (append_assoc (right 13 (decimal p)))
    (no_row_lem p x ((c ++ rest) ++ fill) h (omega (arith, ltb-true x 58 (first_holds (low x) (all low c) l).0)))

pub bottom_back : (w : Stop) (l : List ReplayEntry) → length (decimal (length (pending l))) ≤ 13
    → length (decimal (length (unprocessed l))) ≤ 13 → row_in (bottom w l) ≡ []
unfolding bottom spaced left
bottom_back w l h k =
    number_back (length (pending l)) (right 13 (decimal (length (unprocessed l)))) _ _ h
    (length_right 13 (decimal (length (unprocessed l))) k) (low_right 13 (length (unprocessed l)))

-- ---- Over all pages

rows_back : {rs : List PageRow} → Each Fits rs → gather row_in (map said rs) ≡ rs
unfolding gather
rows_back none = refl
rows_back (both {x = r} {l = rs} h hs) = ap₂ ◌++◌ (said_back r h) (rows_back hs)

module _ (last : List ℕ) (foot : row_in last ≡ []) where
  sheet_back : (p : List (List ℕ)) → gather row_in (sheet last p) ≡ gather row_in p
  unfolding sheet gather
  sheet_back p = rw (top_back, gather_append row_in p (last ∷ []), foot) (append-nil (gather row_in p))

  gathered_back : (ps : List (List (List ℕ))) → gather row_in (gather (sheet last) ps) ≡ gather (gather row_in) ps
  unfolding gather
  gathered_back [] = refl
  gathered_back (p ∷ ps) = gather_append row_in (sheet last p) (gather (sheet last) ps) ∙ ap₂ ◌++◌ (sheet_back p) (gathered_back ps)

  pub sheets_back : {rs : List PageRow} → Each Fits rs → gather row_in (sheets last (map said rs)) ≡ rs
  unfolding sheets
  sheets_back {rs} h =
      gathered_back (parts 58 (map said rs)) ∙ parts_gather 58 (gather row_in) (gather_append row_in) (map said rs) ∙ rows_back h
