-- A line put in parts, and how long lines and their parts are. Assumes nothing.
use mathlib.Core.Path.{◌≡◌}
use mathlib.Core.List.{List, [], ◌∷◌, ◌++◌, append_assoc}
use Prim.Native.Nat.{ℕ, ◌+◌, ◌-◌, ◌≤◌, ◌<◌, ◌^◌}
use native.Mathlib.Omega.{arith}
use borrow.Author.Tests.{eq-eqb, ne_eqb}
use lib.ListN.{length, length-append}
use Rattle.laws.specs.Pick.{pick}
use Rattle.laws.specs.Ascii.{ascii, blank, line_feed}
use Rattle.text.specs.Digits.{decimal}
use Rattle.text.specs.Columns.{blanks, right, left}
use Rattle.text.specs.Put.{Put}
use Rattle.text.proofs.Digits.{length_decimal_64}
use Rattle.text.proofs.Columns.{length_blanks, length_left, right_most}
use Rattle.text.proofs.Put.{then_put}
use Rattle.page_lines.specs.Lines.{line}
use Rattle.page_lines.specs.Words.{count_field, kind_field}

-- the end of a line that has n columns already
pub end_put : (n m : ℕ) {p q r : ℕ} {s t t' : List ℕ} → m ≡ 72 - n → Put p (blanks m) s t q → Put q (line_feed ∷ []) t t' r
    → Put p (blanks (72 - n) ++ (line_feed ∷ [])) s t' r
end_put n m fill f g = rw (← fill) (then_put f g)

-- a line is its text, and then its end
pub line_put : {p q r : ℕ} {v s t t' : List ℕ} → Put p v s t q → q ≤ p + 72
    → Put q (blanks (72 - (q - p)) ++ (line_feed ∷ [])) t t' r → Put p (line v) s t' r × (r ≡ p + 73)
unfolding line left
line_put {p} {q} {v = v} f h g =
    let n : q - p ≡ length v = omega (arith, f.next) in
    let put = then_put f (rw n at g) in
    let all = length-append v (blanks (72 - length v) ++ (line_feed ∷ [])) in
    let end = length-append (blanks (72 - length v)) (line_feed ∷ []) in
    (rw append_assoc put, omega (arith, f.next, put.next, all, end, length_blanks (72 - length v)))

-- where parts of a line end
pub right_ends : (w n : ℕ) {p r : ℕ} {s t : List ℕ} → w ≤ 20 → n < 2 ^ 64 → Put p (right w (decimal n)) s t r → r ≤ p + 20
right_ends w n h k put = omega (arith, put.next, right_most w (decimal n) 20 h (length_decimal_64 n k))

pub left_ends : (v : List ℕ) {p r : ℕ} {s t : List ℕ} → length v ≤ 8 → Put p (left 8 v) s t r → r ≡ p + 8
left_ends v h put = omega (arith, put.next, length_left 8 v h)

-- a number in its columns, and the blank behind it
pub count_put : (n : ℕ) {p q r : ℕ} {s t t' : List ℕ} → Put p (right 13 (decimal n)) s t q → Put q (blank ∷ []) t t' r → Put p (count_field n) s t' r
unfolding count_field
count_put n f g = then_put f g

-- the columns behind the position
module _ (kind author round : ℕ) {p r : ℕ} {s t : List ℕ} where
  pub payload_put : kind ≡ 2 → Put p (left 8 (ascii "payload") ++ blanks 25) s t r → Put p (kind_field kind author round) s t r
  unfolding kind_field pick
  payload_put h put = rw (eq-eqb kind 2 h) put

  pub block_put : (kind ≡ 2 → ⊥)
      → Put p (left 8 (ascii "block") ++ (blank ∷ []) ++ right 3 (decimal author) ++ (blank ∷ []) ++ right 20 (decimal round)) s t r
      → Put p (kind_field kind author round) s t r
  unfolding kind_field pick
  block_put h put = rw (ne_eqb kind 2 h) put
