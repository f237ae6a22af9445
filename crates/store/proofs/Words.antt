-- Words and rows of a table: a word of a row, one row more, and a word stored. Assumes nothing.
use mathlib.Core.Path.{◌≡◌, sym, ap, ◌∙◌}
use mathlib.Core.List.{List, [], ◌∷◌, ◌++◌, append_assoc}
use Prim.Native.Nat.{ℕ, ◌+◌, ◌-◌, ◌*◌, ◌≤◌, ◌<◌}
use native.Mathlib.Omega.{arith}
use lib.ListN.{length, take, drop, set, get_or, length-set, length-drop, take-append-drop}
use lib.Seq.{set-append_left, take-set-le, drop-set-add, drop-drop}
use Rattle.laws.specs.Bytes.{bytes_at, written}
use Rattle.laws.proofs.Written.{length_bytes_at, get_or_bytes_at}
use Rattle.rows.specs.Rows.{rows_of, row_at}
use Rattle.tables.specs.Tables.{EightWords}
use Rattle.rows.proofs.Rows.{rows_of_add, rows_from}
use Rattle.tables.proofs.Tables.{eights_rows_of}

pub word_row_at : (w : List ℕ) (i j : ℕ) → j < 8 → get_or (row_at w i) j 0 ≡ get_or w (8 * i + j) 0
unfolding row_at
word_row_at w i j h = get_or_bytes_at w (8 * i) 8 j h

pub rows_of_next : (w : List ℕ) (i : ℕ) → rows_of (i + 1) w ≡ rows_of i w ++ (row_at w i ∷ [])
unfolding rows_of row_at bytes_at
rows_of_next w i = rows_of_add i 1 w

pub rows_from_eights : (w : List ℕ) (i n : ℕ) → 8 * n ≤ length w → i ≤ n → EightWords (rows_from w i n)
unfolding rows_from
rows_from_eights w i n h k = eights_rows_of (n - i) (drop (8 * i) w) (omega (arith, length-drop (8 * i) w))

-- a word stored in a part is that part written with the word in it
pub stored_in : (w : List ℕ) (p n j x : ℕ) → j < n → p + n ≤ length w → set w (p + j) x ≡ written w p (set (bytes_at w p n) j x)
unfolding written bytes_at
stored_in w p n j x h fits =
    let part : List ℕ = take n (drop p w) in
    let long : length part ≡ n = length_bytes_at w p n fits in
    let same : length (set part j x) ≡ n = length-set part j x ∙ long in
    sym (take-append-drop p (set w (p + j) x))
    ∙ ap (λ (l : List ℕ). l ++ drop p (set w (p + j) x)) (take-set-le p w (p + j) x (omega arith))
    ∙ ap (λ (l : List ℕ). take p w ++ l) (
    drop-set-add p w j x
    ∙ ap (λ (l : List ℕ). set l j x) (sym (take-append-drop n (drop p w)))
    ∙ set-append_left part (drop n (drop p w)) j x (omega arith)
    ∙ ap (λ (l : List ℕ). set part j x ++ l) (drop-drop n p w ∙ ap (λ (k : ℕ). drop (p + k) w) (sym same))
    )
    ∙ sym (append_assoc (take p w) (set part j x) (drop (p + length (set part j x)) w))
