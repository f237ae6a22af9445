-- What an input prints: one law for each way in which the page of an input begins. Assumes nothing.
use mathlib.Core.Path.{◌≡◌, refl}
use mathlib.Core.List.{List, [], ◌∷◌}
use Prim.Native.Nat.{ℕ, suc, ◌-◌, ◌≤◌, ◌<◌}
use native.Mathlib.Omega.{arith}
use lib.ListN.{length, get_or, take, drop}
use lib.Seq.{take_all}
use borrow.Author.Tests.{le-leb, lt-leb}
use Rattle.laws.specs.Pick.{pick}
use Rattle.text.specs.Put.{Put}
use Rattle.replay.specs.Recovery.{recover}
use Rattle.state.specs.Tables.{lent_of}
use Rattle.replay_log.specs.Answers.{Tables, rows_lent}
use Rattle.page_lines.specs.Lines.{number_line}
use Rattle.page.specs.declared.Paged.{Paged}
use Rattle.page_text.specs.Page.{page_of, program_rows, read_input, input_recovery, input_page}
use Rattle.page.specs.Answers.{FillsRecoveryPage}

pub prints_long : (input : List ℕ) → 65536 < length input → input_page input ≡ number_line 2
unfolding input_page input_recovery pick page_of
prints_long input h = rw (lt-leb (length input) 65536 h)

pub prints_short : (input : List ℕ) → length input < 3 → input_page input ≡ number_line 1
unfolding input_page input_recovery pick page_of read_input
prints_short [] h = refl
prints_short (k ∷ []) h = refl
prints_short (k ∷ size ∷ []) h = refl
prints_short (k ∷ size ∷ own ∷ image) h = absurd (omega arith)

-- each table has 4,096 rows
program_rows_lem : (t : Tables) → length t.pending ≡ 32768 → length t.unprocessed ≡ 32768 → length t.committed ≡ 32768
    → length t.index ≡ 32768 → rows_lent t ≡ program_rows
unfolding lent_of program_rows
program_rows_lem t p u c i = rw (p, u, c, i)

prints_page : (input : List ℕ) → length input ≤ 65536 → 3 ≤ length input
    → input_page input
    ≡ page_of
    (recover (get_or input 0 0) (take (length input - 3) (drop 3 input)) (length (take (length input - 3) (drop 3 input))) (get_or input 1 0) (get_or input 2 0) program_rows)
unfolding input_page input_recovery pick read_input
prints_page [] h some = absurd (omega arith)
prints_page (k ∷ []) h some = absurd (omega arith)
prints_page (k ∷ size ∷ []) h some = absurd (omega arith)
prints_page (k ∷ size ∷ own ∷ image) h some =
    let n : suc (suc (suc (length image))) - 3 ≡ length image = omega arith in
    rw (le-leb (length (k ∷ size ∷ own ∷ image)) 65536 h, n, take_all (length image) image (omega arith))

-- the page of the log in an input, with tables of 32,768 words
pub page_printed : (input : List ℕ) {k size own : ℕ} {before after : Tables} {out out' : List ℕ} {r : Paged} → length input ≤ 65536 → 3 ≤ length input
    → k ≡ get_or input 0 0 → size ≡ get_or input 1 0 → own ≡ get_or input 2 0
    → FillsRecoveryPage k (take (length input - 3) (drop 3 input)) (length (take (length input - 3) (drop 3 input))) size own before out r after out'
    → length before.pending ≡ 32768 → length before.unprocessed ≡ 32768 → length before.committed ≡ 32768
    → length before.index ≡ 32768 → Put 0 (input_page input) out out' r.length
page_printed input {before = before} h some is_k is_size is_own fills p u c i =
    rw (prints_page input h some, ← is_k, ← is_size, ← is_own, ← program_rows_lem before p u c i) fills.text
