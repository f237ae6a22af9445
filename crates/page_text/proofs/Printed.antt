-- The lines that a recovery prints. Assumes nothing.
use mathlib.Core.Path.{◌≡◌, refl, sym, ap₂}
use mathlib.Core.Bool.{Bool, true, false}
use mathlib.Core.List.{List, [], ◌∷◌, map, append-nil}
use Prim.Native.Nat.{ℕ, ◌+◌, ◌^◌, ◌≤◌, ◌<◌}
use native.Mathlib.Nat.{lt_of_le_of_lt}
use native.Mathlib.Omega.{arith}
use lib.Dec.{lit<, lit≤}
use lib.ListN.{length, length-append}
use Rattle.laws.specs.Pick.{pick}
use Rattle.laws.specs.Ascii.{ascii}
use Rattle.laws.specs.Bytes.{AllBytes}
use Rattle.laws.specs.Parse.{joined}
use Rattle.text.specs.Digits.{decimal}
use Rattle.text.specs.Columns.{blanks, right, left, spaced}
use Rattle.text.proofs.Digits.{length_decimal, length_decimal_64}
use Rattle.text.proofs.Columns.{length_right}
use Rattle.wal.specs.Walk.{Stop, END, ZEROS, TORN}
use Rattle.listing.specs.Listing.{word}
use Rattle.replay.specs.Items.{Item, is_block, is_payload, is_own_block, is_state, is_commit, ReplayEntry, block_in}
use Rattle.replay.specs.Rules.{can_be_pending, all_keep_pending, pending, unprocessed, committed}
use Rattle.replay.specs.Recovery.{Lent, Recovery, refused, recovered, recover}
use Rattle.bounds.specs.Bounds.{Small, AllSmall}
use Rattle.bounds.proofs.Bounds.{bounds}
use Rattle.page_lines.specs.Lines.{line, kind, author, round, row, foot, number_line}
use Rattle.page_text.specs.Page.{page_of}
use Rattle.page_text.specs.Request01.{PageRow, block_at, payload_at, no_row, said, shown}
use Rattle.page_text.proofs.Tested.{all, printed, all_append, printed_blanks, printed_decimal}
use Rattle.page_text.proofs.Lines.{Each, none, both, IsLine, line_of, fed}
use Rattle.page_text.proofs.Sheets.{sheets, sheet_lines, pages_text}

-- ---- Lines of columns

-- a column of w bytes at most
record Column (w : ℕ) (c : List ℕ) : Type 0 where
  most : length c ≤ w
  plain : all printed c ≡ true

-- a position, or a number of rows
thirteen : (n : ℕ) → n ≤ 2 ^ 40 → length (decimal n) ≤ 13
thirteen n h = length_decimal 12 n (lt_of_le_of_lt h (lit< tt))

to_right : (w : ℕ) (v : List ℕ) → length v ≤ w → all printed v ≡ true → Column w (right w v)
unfolding right pick
to_right w v h k = record { most = omega (arith, length_right w v h); plain = rw (all_append, printed_blanks, k) }

number : (w n : ℕ) → length (decimal n) ≤ w → Column w (right w (decimal n))
number w n h = to_right w (decimal n) h (printed_decimal n)

four : {w x y z : ℕ} {a b c d : List ℕ} → w + x + (y + z) ≤ 69 → Column w a → Column x b → Column y c → Column z d
    → IsLine (left 72 (spaced (a ∷ b ∷ c ∷ d ∷ [])))
unfolding spaced all pick
four {a = a} {b = b} {c = c} {d = d} fit h k m n =
    line_of (spaced (a ∷ b ∷ c ∷ d ∷ []))
    (simp length-append (omega (arith, h.most, k.most, m.most, n.most)))
    (rw (all_append printed a, h.plain, all_append printed b, k.plain, all_append printed c, m.plain, n.plain))

-- ---- Rows

-- numbers that have room in their columns
abbrev pub Fits : PageRow → Type 0
Fits (block_at p a r) = (length (decimal p) ≤ 13) × (length (decimal a) ≤ 3) × (length (decimal r) ≤ 20)
Fits (payload_at p) = length (decimal p) ≤ 13
Fits no_row = ⊥

said_line : (r : PageRow) → Fits r → IsLine (said r)
unfolding said all pick ascii left blanks
said_line (block_at p a r) h =
    four {w = 13} {x = 8} (omega arith) (number 13 p h.0) (record { most = lit≤ tt; plain = refl }) (number 3 a h.1) (number 20 r h.2)
said_line (payload_at p) h =
    four {w = 13} {x = 8} (omega arith) (number 13 p h) (record { most = lit≤ tt; plain = refl }) (to_right 3 [] (lit≤ tt) refl)
    (to_right 20 [] (lit≤ tt) refl)
said_line no_row h = absurd h

-- what a recovery's bounds say of a pending entry
pub record Row (x : ReplayEntry) : Type 0 where
  pub is : row x ≡ fed (said (shown x))
  pub fits : Fits (shown x)

module _ (size used : ℕ) (few : used ≤ 2 ^ 40) (low : size ≤ 128) where
  row_of : (x : ReplayEntry) → can_be_pending x.item ≡ true → Small size used x → Row x
  unfolding row fed said shown line kind author round can_be_pending block_in
  row_of x h small = from x.item refl
    where
      not_pending : false ≡ true → Row x
      not_pending z = let n : ◌≡◌ {A = ℕ} 0 1 = cc in absurd (omega arith)

      start : length (decimal x.entry.start) ≤ 13
      start = thirteen x.entry.start (omega (arith, small.start))

      from : (i : Item) → x.item ≡ i → Row x
      from (is_block r) e =
          let author_low : r.authority < 10 ^ 3 = omega (arith, small.authority r (rw e)) in
          record { is = rw e; fits = rw e (start, length_decimal 2 r.authority author_low, length_decimal_64 r.round (small.round r (rw e))) }
      from is_payload e = record { is = rw e; fits = rw e start }
      from (is_own_block next r) e = not_pending (rw e at h)
      from is_state e = not_pending (rw e at h)
      from (is_commit c) e = not_pending (rw e at h)

  rows_of : {l : List ReplayEntry} → Each (λ (x : ReplayEntry). can_be_pending x.item ≡ true) l → AllSmall size used l → Each Row l
  rows_of none h = none
  rows_of (both {x = x} p ps) h = both (row_of x p h.0) (rows_of ps h.1)

-- what is pending is a block or a payload
all_pending : (l : List ReplayEntry) → Each (λ (x : ReplayEntry). can_be_pending x.item ≡ true) (pending l)
unfolding pending pick
all_pending [] = none
all_pending (x ∷ later) = from (can_be_pending x.item) refl (all_keep_pending x.entry.start later) (all_pending later)
  where
    from : (t : Bool) → can_be_pending x.item ≡ t → (u : Bool)
        → Each (λ (y : ReplayEntry). can_be_pending y.item ≡ true) (pending later)
        → Each (λ (y : ReplayEntry). can_be_pending y.item ≡ true) (pick t (pick u (x ∷ pending later) (pending later)) (pending later))
    from true e true h = both e h
    from true e false h = h
    from false e u h = h

rows_are : {l : List ReplayEntry} → Each Row l → map row l ≡ map fed (map said (map shown l))
rows_are none = refl
rows_are (both h hs) = ap₂ ◌∷◌ h.is (rows_are hs)

pub rows_fit : {l : List ReplayEntry} → Each Row l → Each Fits (map shown l)
rows_fit none = none
rows_fit (both h hs) = both h.fits (rows_fit hs)

said_lines : {rs : List PageRow} → Each Fits rs → Each IsLine (map said rs)
said_lines none = none
said_lines (both {x = r} h hs) = both (said_line r h) (said_lines hs)

-- ---- The foot, and the number of a refusal

unfoldable pub bottom : Stop → List ReplayEntry → List ℕ
bottom w l =
    left 72
    (spaced
    (right 13 (decimal (length (pending l)))
    ∷ right 13 (decimal (length (unprocessed l)))
    ∷ right 13 (decimal (length (committed l)))
    ∷ word w
    ∷ []))

pub foot_is : (w : Stop) (l : List ReplayEntry) → foot w l ≡ fed (bottom w l)
unfolding foot bottom fed line
foot_is w l = refl

word_column : (w : Stop) → Column 5 (word w)
unfolding word ascii all pick
word_column END = record { most = lit≤ tt; plain = refl }
word_column ZEROS = record { most = lit≤ tt; plain = refl }
word_column TORN = record { most = lit≤ tt; plain = refl }

-- the lines of a page, without their line feeds
unfoldable pub page_lines : Recovery → List (List ℕ)
page_lines (refused n p) = left 72 (right 13 (decimal n)) ∷ []
page_lines (recovered w e l) = sheets (bottom w l) (map said (map shown (pending l)))

pub record Prints (x : Recovery) : Type 0 where
  pub each : Each IsLine (page_lines x)
  pub is : page_of x ≡ joined fed (page_lines x)

pub refused_prints : (n p : ℕ) → n ≤ 18 → Prints (refused n p)
unfolding page_of page_lines number_line line fed joined
refused_prints n p h =
    let c = number 13 n (thirteen n (omega arith)) in
    record {
      each = both (line_of (right 13 (decimal n)) (omega (arith, c.most)) c.plain) none;
      is = sym (append-nil (number_line n));
    }

module _ (k : ℕ) (s : List ℕ) (used size own : ℕ) (lent : Lent) (bytes : AllBytes s) where
  module _ (w : Stop) (e : ℕ) (l : List ReplayEntry) (is : recover k s used size own lent ≡ recovered w e l) where
    pub rows : Each Row (pending l)
    rows =
        rows_of size used (bounds.used k s used size own lent w e l is) (bounds.size k s used size own lent w e l is) (all_pending l)
        (bounds.small k s used size own lent w e l bytes is)

    pub counts : (length (decimal (length (pending l))) ≤ 13) × (length (decimal (length (unprocessed l))) ≤ 13)
        × (length (decimal (length (committed l))) ≤ 13)
    counts =
        let most = bounds.used k s used size own lent w e l is in
        let few = bounds.few k s used size own lent w e l bytes is in (
          thirteen (length (pending l)) (omega (arith, few.pending)),
          thirteen (length (unprocessed l)) (omega (arith, few.unprocessed)),
          thirteen (length (committed l)) (omega (arith, few.committed)),
        )

    bottom_line : IsLine (bottom w l)
    unfolding bottom
    bottom_line =
        four {w = 13} {x = 13} {y = 13} (omega arith) (number 13 (length (pending l)) counts.0)
        (number 13 (length (unprocessed l)) counts.1) (number 13 (length (committed l)) counts.2) (word_column w)

    recovered_prints : Prints (recovered w e l)
    unfolding page_of page_lines
    recovered_prints =
        record {
          each = sheet_lines (bottom w l) bottom_line (said_lines (rows_fit rows));
          is = rw (foot_is w l, rows_are rows) (pages_text (bottom w l) (map said (map shown (pending l))));
        }

  pub prints : (x : Recovery) → recover k s used size own lent ≡ x → Prints x
  prints (refused n p) is = refused_prints n p (bounds.number k s used size own lent n p is)
  prints (recovered w e l) is = recovered_prints w e l is
