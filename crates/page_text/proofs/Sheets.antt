-- Pages as lists of lines: a heading, at most 58 rows and a foot. Assumes nothing.
use mathlib.Core.Path.{◌≡◌, refl, sym, ap, ap₂, ◌∙◌}
use mathlib.Core.Logic.{inl, inr}
use mathlib.Core.List.{List, [], ◌∷◌, ◌++◌, map, append-nil, append_assoc}
use Prim.Native.Nat.{ℕ, zero, suc, ◌+◌, ◌-◌, ◌*◌, ◌≤◌, ◌<◌}
use native.Mathlib.Omega.{arith}
use lib.ListN.{length, take, drop, length-append, length-map, length-drop, take-append-drop}
use lib.Seq.{take_at, drop_at, get_or_at, length-take-le}
use Rattle.laws.specs.Pick.{pick}
use Rattle.laws.specs.Ascii.{ascii}
use Rattle.laws.specs.Parse.{joined}
use Rattle.laws.proofs.Tests.{leb_cases}
use Rattle.laws.proofs.Parses.{joined_append}
use Rattle.text.specs.Columns.{left}
use Rattle.replay.specs.Rules.{gather}
use Rattle.page_lines.specs.Lines.{line, heading}
use Rattle.page_text.specs.Page.{parts_by, parts, text, page, pages}
use Rattle.page_text.specs.Request01.{AllPages}
use Rattle.page_text.proofs.Parts.{parts_last, parts_more, map_take, map_drop}
use Rattle.page_text.proofs.Texts.{text_map}
use Rattle.page_text.proofs.Tested.{all}
use Rattle.page_text.proofs.Lines.{Each, none, both, each_append, each_take, each_drop, IsLine, line_of, fed}

-- ---- Parts

module _ {A B : Type 0} (n : ℕ) where
  -- parts of what f gives
  by_map : (f : A → B) (fuel : ℕ) (l : List A) → parts_by fuel n (map f l) ≡ map (map f) (parts_by fuel n l)
  unfolding parts_by pick
  by_map f zero l = refl
  by_map f (suc fuel) l =
      elim (leb_cases (length l) n) [
        | inl y ↦ rw (length-map l f, y.0)
        | inr m ↦ rw (length-map l f, m.0, map_take f n l, map_drop f n l, by_map f fuel (drop n l))
      ]

  pub parts_map : (f : A → B) (l : List A) → parts n (map f l) ≡ map (map f) (parts n l)
  unfolding parts
  parts_map f l = rw (length-map l f) (by_map f (length l) l)

  -- what is gathered from the parts is gathered from the whole
  module _ (F : List A → List B) (joins : (a b : List A) → F (a ++ b) ≡ F a ++ F b) where
    by_gather : (fuel : ℕ) (l : List A) → gather F (parts_by fuel n l) ≡ F l
    unfolding parts_by pick gather
    by_gather zero l = append-nil (F l)
    by_gather (suc fuel) l =
        elim (leb_cases (length l) n) [
          | inl y ↦ rw y.0 (append-nil (F l))
          | inr m ↦ rw (m.0, by_gather fuel (drop n l)) (sym (joins (take n l) (drop n l)) ∙ ap F (take-append-drop n l))
        ]

    pub parts_gather : (l : List A) → gather F (parts n l) ≡ F l
    unfolding parts
    parts_gather l = by_gather (length l) l

by_few : {A : Type 0} (fuel : ℕ) (l : List A) → 58 * length (parts_by fuel 58 l) ≤ length l + 58
unfolding parts_by pick
by_few zero l = omega arith
by_few (suc fuel) l =
    elim (leb_cases (length l) 58) [
      | inl y ↦ rw y.0 (omega arith)
      | inr m ↦ rw m.0 (omega (arith, m.1, by_few fuel (drop 58 l), length-drop 58 l))
    ]

-- how many pages there are
pub few_parts : {A : Type 0} (l : List A) → 58 * length (parts 58 l) ≤ length l + 58
unfolding parts
few_parts l = by_few (length l) l

-- ---- Pages

unfoldable pub top : List ℕ
top = left 72 (ascii "PENDING")

top_line : IsLine top
unfolding top ascii all pick
top_line = line_of (ascii "PENDING") (omega arith) refl

module _ (last : List ℕ) where
  -- without line feeds
  unfoldable pub sheet : List (List ℕ) → List (List ℕ)
  sheet rows = top ∷ (rows ++ (last ∷ []))

  unfoldable pub sheets : List (List ℕ) → List (List ℕ)
  sheets rows = gather sheet (parts 58 rows)

  length_sheet : (p : List (List ℕ)) → length (sheet p) ≡ length p + 2
  unfolding sheet
  length_sheet p = omega (arith, length-append p (last ∷ []))

  gathered : (ps : List (List (List ℕ))) → length (gather sheet ps) ≡ length (gather (λ (p : List (List ℕ)). p) ps) + 2 * length ps
  unfolding gather
  gathered [] = refl
  gathered (p ∷ ps) =
      omega
      (arith, length-append (sheet p) (gather sheet ps), length_sheet p, gathered ps, length-append p (gather (λ (q : List (List ℕ)). q) ps))

  pub length_sheets : (rows : List (List ℕ)) → length (sheets rows) ≡ length rows + 2 * length (parts 58 rows)
  unfolding sheets
  length_sheets rows =
      gathered (parts 58 rows)
      ∙ ap (λ (l : List (List ℕ)). length l + 2 * length (parts 58 rows)) (parts_gather 58 (λ (p : List (List ℕ)). p) (λ a b. refl) rows)

  -- each page is one part of 60 lines, the last of as many as there are
  last_sheet : (rows : List (List ℕ)) → length rows ≤ 58 → parts 60 (sheets rows) ≡ map sheet (parts 58 rows)
  unfolding sheets gather
  last_sheet rows h =
      rw (parts_last 58 (omega arith) rows h, append-nil (sheet rows))
      (parts_last 60 (omega arith) (sheet rows) (omega (arith, length_sheet rows)))

  more_sheets : (rows : List (List ℕ)) → 58 < length rows → sheets rows ≡ sheet (take 58 rows) ++ sheets (drop 58 rows)
  unfolding sheets gather
  more_sheets rows h = rw (parts_more 58 (omega arith) rows h)

  sheets_by : (fuel : ℕ) (rows : List (List ℕ)) → length rows ≤ fuel → parts 60 (sheets rows) ≡ map sheet (parts 58 rows)
  sheets_by zero rows h = last_sheet rows (omega arith)
  sheets_by (suc fuel) rows h =
      elim (leb_cases (length rows) 58) [
        | inl y ↦ last_sheet rows y.1
        | inr m ↦
            let front = take 58 rows in
            let rest = sheets (drop 58 rows) in
            let full : length (sheet front) ≡ 60 = omega (arith, m.1, length_sheet front, length-take-le 58 rows (omega (arith, m.1))) in
            let longer : 60 < length (sheet front ++ rest) =
            omega (arith, m.1, length-append (sheet front) rest, length_sheets (drop 58 rows), length-drop 58 rows) in
            let back : parts 60 rest ≡ map sheet (parts 58 (drop 58 rows)) =
            sheets_by fuel (drop 58 rows) (omega (arith, m.1, length-drop 58 rows)) in
            rw (more_sheets rows m.1, parts_more 60 (omega arith) (sheet front ++ rest) longer)
            (rw (take_at (sheet front) rest 60 full, drop_at (sheet front) rest 60 full, back, parts_more 58 (omega arith) rows m.1))
      ]

  -- they begin with the heading and end with the foot
  all_sheets : (ps : List (List (List ℕ))) → AllPages (fed last) (map sheet ps)
  unfolding sheet fed top heading line
  all_sheets [] = tt
  all_sheets (p ∷ ps) =
      let end : length (top ∷ p) ≡ length (sheet p) - 1 = omega (arith, length_sheet p) in
      (refl, ap fed (get_or_at (top ∷ p) last [] [] (length (sheet p) - 1) end), all_sheets ps)

  pub sheet_pages : (rows : List (List ℕ)) → AllPages (fed last) (parts 60 (sheets rows))
  sheet_pages rows = rw (sheets_by (length rows) rows (omega arith)) (all_sheets (parts 58 rows))

  -- the text of pages
  page_text : (p : List (List ℕ)) → page (fed last) (map fed p) ≡ joined fed (sheet p)
  unfolding page sheet joined text fed top heading line
  page_text p =
      append_assoc heading (text (map fed p)) (fed last)
      ∙ ap (λ (v : List ℕ). heading ++ v)
      (ap (λ (v : List ℕ). v ++ fed last) (text_map fed p) ∙ ap (λ (v : List ℕ). joined fed p ++ v) (sym (append-nil (fed last)))
      ∙ sym (joined_append fed p (last ∷ [])))

  pages_by : (ps : List (List (List ℕ))) → joined (page (fed last)) (map (map fed) ps) ≡ joined fed (gather sheet ps)
  unfolding joined gather
  pages_by [] = refl
  pages_by (p ∷ ps) =
      ap₂ (λ (a b : List ℕ). a ++ b) (page_text p) (pages_by ps) ∙ sym (joined_append fed (sheet p) (gather sheet ps))

  pub pages_text : (rows : List (List ℕ)) → pages (fed last) (map fed rows) ≡ joined fed (sheets rows)
  unfolding pages sheets
  pages_text rows = rw (parts_map 58 fed rows) (pages_by (parts 58 rows))

  -- every line of them is a line
  module _ (foot : IsLine last) where
    lines_by : (fuel : ℕ) (rows : List (List ℕ)) → Each IsLine rows → Each IsLine (gather sheet (parts_by fuel 58 rows))
    unfolding parts_by pick gather sheet
    lines_by zero rows h = rw append-nil (both top_line (each_append h (both foot none)))
    lines_by (suc fuel) rows h =
        elim (leb_cases (length rows) 58) [
          | inl y ↦ rw (y.0, append-nil) (both top_line (each_append h (both foot none)))
          | inr m ↦
              rw m.0
              (each_append {a = sheet (take 58 rows)} (both top_line (each_append (each_take 58 h) (both foot none)))
              (lines_by fuel (drop 58 rows) (each_drop 58 h)))
        ]

    pub sheet_lines : {rows : List (List ℕ)} → Each IsLine rows → Each IsLine (sheets rows)
    unfolding sheets parts
    sheet_lines {rows} h = lines_by (length rows) rows h
