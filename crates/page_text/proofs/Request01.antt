-- The page's theorem. Assumes nothing.
use mathlib.Core.Path.{◌≡◌, refl, ap, ◌∙◌}
use mathlib.Core.List.{List, [], ◌++◌, map, append-nil}
use Prim.Native.Nat.{ℕ, ◌<◌}
use native.Mathlib.Omega.{arith}
use lib.Dec.{lit<}
use lib.ListN.{length, length-map}
use Rattle.laws.specs.Bytes.{AllBytes}
use Rattle.laws.specs.Parse.{joined}
use Rattle.wal.specs.Walk.{Stop}
use Rattle.replay.specs.Items.{ReplayEntry}
use Rattle.replay.specs.Rules.{gather, pending}
use Rattle.replay.specs.Recovery.{Lent, Recovery, refused, recovered, recover}
use Rattle.bounds.proofs.Bounds.{bounds}
use Rattle.page_lines.specs.Lines.{heading, row, foot}
use Rattle.page_text.specs.Page.{parts_by, parts, text, page, pages, page_of, program_rows, input_recovery, input_page}
use Rattle.page_text.specs.Request01.{lines_of, said, row_in, rows_in, shown, Wide, Shows, Request01}
use Rattle.page_text.proofs.Lines.{lines_back, wide}
use Rattle.page_text.proofs.Sheets.{parts_map, sheets, length_sheets, sheet_pages}
use Rattle.page_text.proofs.Printed.{rows, rows_fit, counts, bottom, foot_is, page_lines, Prints, refused_prints, prints}
use Rattle.page_text.proofs.ReadBack.{bottom_back, sheets_back}
use Rattle.page_text.proofs.InputCases.{input_cases}
use Rattle.page_text.proofs.Room.{room}

prints_wide : {x : Recovery} → Prints x → Wide (page_of x)
prints_wide h = rw h.is (wide h.each)

-- nothing pending is one page without rows
one_page : (last : List ℕ) → pages last [] ≡ heading ++ last
unfolding pages parts parts_by page text joined
one_page last = simp append-nil

module _ (k : ℕ) (s : List ℕ) (used size own : ℕ) (lent : Lent) (bytes : AllBytes s) where
  page_wide : Wide (page_of (recover k s used size own lent))
  page_wide = prints_wide (prints k s used size own lent bytes (recover k s used size own lent) refl)

  page_shows : (w : Stop) (e : ℕ) (l : List ReplayEntry) → recover k s used size own lent ≡ recovered w e l
      → Shows (page_of (recovered w e l)) w l
  unfolding page_lines rows_in page_of
  page_shows w e l is =
      let h = prints k s used size own lent bytes (recovered w e l) is in
      let last = bottom w l in
      let rs = map shown (pending l) in
      let few = counts k s used size own lent bytes w e l is in
      let back : lines_of (page_of (recovered w e l)) ≡ sheets last (map said rs) = ap lines_of h.is ∙ lines_back h.each in
      record {
        rows =
            ap (gather row_in) back
            ∙ sheets_back last (bottom_back w l few.0 few.1) (rows_fit (rows k s used size own lent bytes w e l is));
        pages = rw (back, foot_is w l) (sheet_pages last (map said rs));
        lines = rw back (length_sheets last (map said rs) ∙ simp (parts_map, length-map));
        one = λ none. ap (λ (p : List ReplayEntry). pages (foot w l) (map row p)) none ∙ one_page (foot w l);
      }

-- refusals of different numbers, and a refusal and an answer, differ
other : {n p m q : ℕ} → n < m → refused n p ≡ refused m q → ⊥
other {n} {p} {m} h e = let z : n ≡ m = cc in omega arith

accepted : {n p e : ℕ} {w : Stop} {l : List ReplayEntry} → refused n p ≡ recovered w e l → ⊥
accepted is = let z : ◌≡◌ {A = ℕ} 0 1 = cc in omega arith

-- each table of the program has a row for each 16 bytes of the image
never_fifteen : (p : ℕ) (input : List ℕ) → AllBytes input → input_recovery input ≡ refused 15 p → ⊥
unfolding program_rows
never_fifteen p =
    input_cases (λ (x : Recovery). x ≡ refused 15 p → ⊥) (other (lit< tt)) (other (lit< tt))
    (λ k s size own bytes short.
    bounds.enough k s (length s) size own program_rows p bytes
    (record { pending = omega arith; unprocessed = omega arith; committed = omega arith; index = omega arith }))

input_shows : (w : Stop) (e : ℕ) (l : List ReplayEntry) (input : List ℕ) → AllBytes input → input_recovery input ≡ recovered w e l
    → Shows (page_of (input_recovery input)) w l
input_shows w e l =
    input_cases (λ (x : Recovery). x ≡ recovered w e l → Shows (page_of x) w l) (λ is. absurd (accepted is)) (λ is. absurd (accepted is))
    (λ k s size own bytes short is. rw is (page_shows k s (length s) size own program_rows bytes w e l is))

pub request_01 : Request01
unfolding input_page page_of
request_01 =
    record {
      width = λ k s used size own lent bytes. page_wide k s used size own lent bytes;
      shows = λ k s used size own lent w e l bytes is. page_shows k s used size own lent bytes w e l is;
      input_width = λ input bytes.
          input_cases (λ (x : Recovery). Wide (page_of x)) (prints_wide (refused_prints 1 0 (omega arith)))
          (prints_wide (refused_prints 2 0 (omega arith)))
          (λ k s size own b short. page_wide k s (length s) size own program_rows b) input bytes;
      input_shows = λ input w e l bytes is. input_shows w e l input bytes is;
      input_refused = λ input n p is. ap page_of is;
      rows_enough = λ input p bytes is. never_fifteen p input bytes is;
      room = room;
    }
