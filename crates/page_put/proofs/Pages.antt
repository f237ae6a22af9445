-- Pages put one after the other. Assumes nothing.
use mathlib.Core.Path.{◌≡◌, refl, sym, ap, ap₂, ◌∙◌}
use mathlib.Core.List.{List, [], ◌∷◌, ◌++◌, map, append-nil, append_assoc}
use Prim.Native.Nat.{ℕ, ◌+◌, ◌-◌, ◌*◌, ◌≤◌, ◌<◌, min}
use native.Mathlib.Omega.{arith}
use lib.ListN.{length, take, drop, length-take, length-drop, length-append, length-map}
use lib.Seq.{take_all}
use Rattle.laws.specs.Parse.{joined}
use Rattle.laws.proofs.Parses.{joined_append}
use Rattle.text.specs.Put.{Put}
use Rattle.text.proofs.Put.{then_put, put_none}
use Rattle.page_lines.specs.Lines.{heading}
use Rattle.page_lines.specs.Words.{row_text}
use Rattle.page_text.specs.Page.{page, pages}
use Rattle.page_text.proofs.Texts.{text_map}
use Rattle.page_text.proofs.Parts.{parts_last, parts_more, map_take, map_drop}

-- ---- The rows of a page

-- the loop's invariant: the rows `done` are put
pub record Rowing (at : ℕ) (out₀ out : List ℕ) (next : ℕ) (done : List (List ℕ)) : Type 0 where
  pub place : next ≡ at + 73 * length done
  pub put : Put at (joined row_text done) out₀ out next

pub rowing_start : (at : ℕ) (out : List ℕ) → Rowing at out out at []
unfolding joined
rowing_start at out = record { place = omega arith; put = put_none }

pub rowing_next : {at : ℕ} {out₀ out out' : List ℕ} {next r : ℕ} {done : List (List ℕ)} (row : List ℕ) → Rowing at out₀ out next done
    → Put next (row_text row) out out' r → r ≡ next + 73 → Rowing at out₀ out' r (done ++ (row ∷ []))
unfolding joined
rowing_next {done = done} row h put len =
    let more : joined row_text (done ++ (row ∷ [])) ≡ joined row_text done ++ row_text row =
    joined_append row_text done (row ∷ []) ∙ ap (λ (l : List ℕ). joined row_text done ++ l) (append-nil (row_text row)) in
    record { place = omega (arith, h.place, length-append done (row ∷ [])); put = rw more (then_put h.put put) }

-- a page, from its heading, its rows and its foot
pub page_put : (rows : List (List ℕ)) {at q r s : ℕ} {last out a b c : List ℕ} → Put at heading out a q
    → Put q (joined row_text rows) a b r → Put r last b c s → Put at (page last (map row_text rows)) out c s
unfolding page
page_put rows head body foot = rw (text_map row_text rows) (then_put (then_put head body) foot)

-- ---- All pages

pub pages_last : (last : List ℕ) (rows : List (List ℕ)) → length rows ≤ 58 → pages last rows ≡ page last rows
unfolding pages joined
pages_last last rows h = rw (parts_last 58 (omega arith) rows h) (append-nil (page last rows))

pub pages_more : (last : List ℕ) (rows : List (List ℕ)) → 58 < length rows
    → pages last rows ≡ page last (take 58 rows) ++ pages last (drop 58 rows)
unfolding pages joined
pages_more last rows h = rw (parts_more 58 (omega arith) rows h)

-- the loop's invariant: the pages `done` are put, and those of the rows `rest` are left
pub record Paging (all : List (List ℕ)) (last out₀ out : List ℕ) (rest : List (List ℕ)) (at : ℕ) : Type 0 where
  pub fewer : length rest ≤ length all
  pub most : at ≤ 76 * (length all - length rest)
  pub done : List ℕ
  pub put : Put 0 done out₀ out at
  pub whole : pages last (map row_text all) ≡ done ++ pages last (map row_text rest)

pub paging_start : (all : List (List ℕ)) (last out : List ℕ) → Paging all last out out all 0
paging_start all last out =
    record { fewer = omega arith; most = omega arith; done = []; put = put_none; whole = refl }

module _ {all : List (List ℕ)} {last out₀ out : List ℕ} {rest : List (List ℕ)} {at : ℕ} (h : Paging all last out₀ out rest at) {m : ℕ} {rows later : List (List ℕ)} (is : m ≡ min (length rest) 58) (front : rows ≡ take m rest) (back : later ≡ drop m rest) {out' : List ℕ} {r : ℕ} (put : Put at (page last (map row_text rows)) out out' r) where
  -- as many rows are left
  left : length later ≡ length rest - m
  left = ap length back ∙ length-drop m rest

  -- a page with rows behind it has 58
  pub paging_next : (length later ≡ 0 → ⊥) → r ≡ at + (73 * length rows + 146)
      → Paging all last out₀ out' later r × (length later < length rest)
  paging_next more len =
      let full : m ≡ 58 = omega (arith, left, more) in
      let first : map row_text rows ≡ take 58 (map row_text rest) =
      ap (map row_text) (front ∙ ap (λ (n : ℕ). take n rest) full) ∙ sym (map_take row_text 58 rest) in
      let others : map row_text later ≡ drop 58 (map row_text rest) =
      ap (map row_text) (back ∙ ap (λ (n : ℕ). drop n rest) full) ∙ sym (map_drop row_text 58 rest) in (
        record {
          fewer = omega (arith, left, h.fewer);
          most = omega (arith, left, h.most, h.fewer, ap length front, length-take m rest);
          done = h.done ++ page last (map row_text rows);
          put = then_put h.put put;
          whole =
              h.whole
              ∙ ap (λ (v : List ℕ). h.done ++ v)
              (pages_more last (map row_text rest) (omega (arith, left, length-map rest row_text)) ∙ ap₂ (λ (a b : List (List ℕ)). page last a ++ pages last b) (sym first) (sym others))
              ∙ sym (append_assoc h.done (page last (map row_text rows)) (pages last (map row_text later)));
        },
        omega (arith, left),
      )

  pub paging_done : length later ≡ 0 → Put 0 (pages last (map row_text all)) out₀ out' r
  paging_done none =
      let every : rows ≡ rest = front ∙ take_all m rest (omega (arith, left)) in
      rw (h.whole, pages_last last (map row_text rest) (omega (arith, left, length-map rest row_text)), ← every) (then_put h.put put)
