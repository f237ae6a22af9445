-- Lines of 72 columns, each with its line feed, and read back. Assumes nothing.
use mathlib.Core.Path.{◌≡◌, refl, sym, ap, ◌∙◌}
use mathlib.Core.Bool.{true}
use mathlib.Core.List.{List, [], ◌∷◌, ◌++◌, append_assoc}
use Prim.Native.Nat.{ℕ, zero, suc, ◌*◌, ◌≤◌}
use native.Mathlib.Omega.{arith}
use lib.ListN.{length, take, drop, length-append}
use borrow.Author.Tests.{leb-true, ne_eqb}
use Rattle.laws.specs.Pick.{pick}
use Rattle.laws.specs.Ascii.{line_feed}
use Rattle.laws.specs.Parse.{joined}
use Rattle.text.specs.Columns.{left}
use Rattle.text.proofs.Columns.{length_left}
use Rattle.page_text.specs.Request01.{lines_of, AllWide, Wide}
use Rattle.page_text.proofs.Tested.{all, printed, first_holds, all_append, printed_blanks}

-- each element of a list has the property
pub data Each {A : Type 0} (P : A → Type 0) : List A → Type 0 where
  none : Each P []
  both : {x : A} {l : List A} → P x → Each P l → Each P (x ∷ l)

pub each_append : {A : Type 0} {P : A → Type 0} {a b : List A} → Each P a → Each P b → Each P (a ++ b)
each_append none k = k
each_append (both p h) k = both p (each_append h k)

pub each_take : {A : Type 0} {P : A → Type 0} (n : ℕ) {l : List A} → Each P l → Each P (take n l)
each_take zero h = none
each_take (suc n) none = none
each_take (suc n) (both p h) = both p (each_take n h)

pub each_drop : {A : Type 0} {P : A → Type 0} (n : ℕ) {l : List A} → Each P l → Each P (drop n l)
each_drop zero h = h
each_drop (suc n) none = none
each_drop (suc n) (both p h) = each_drop n h

pub record IsLine (l : List ℕ) : Type 0 where
  pub wide : length l ≡ 72
  pub plain : all printed l ≡ true

-- text that is not wider, filled with blanks
pub line_of : (v : List ℕ) → length v ≤ 72 → all printed v ≡ true → IsLine (left 72 v)
unfolding left pick
line_of v h k = record { wide = length_left 72 v h; plain = rw (all_append, k, printed_blanks) }

unfoldable pub fed : List ℕ → List ℕ
fed l = l ++ (line_feed ∷ [])

-- the first line of a text
first_line : (l rest : List ℕ) → all printed l ≡ true → lines_of (l ++ (line_feed ∷ rest)) ≡ l ∷ lines_of rest
unfolding lines_of pick all
first_line [] rest h = refl
first_line (b ∷ l) rest h =
    let both = first_holds (printed b) (all printed l) h in
    let high = leb-true 32 b both.0 in
    rw (ne_eqb b 10 (λ e. omega arith), first_line l rest both.1)

pub lines_back : {ls : List (List ℕ)} → Each IsLine ls → lines_of (joined fed ls) ≡ ls
unfolding joined fed lines_of
lines_back none = refl
lines_back (both {x = l} {l = ls} h hs) =
    ap lines_of (append_assoc l (line_feed ∷ []) (joined fed ls))
    ∙ first_line l (joined fed ls) h.plain
    ∙ ap (λ (m : List (List ℕ)). l ∷ m) (lines_back hs)

all_wide : {ls : List (List ℕ)} → Each IsLine ls → AllWide ls
all_wide none = tt
all_wide (both h hs) = (h.wide, all_wide hs)

pub wide : {ls : List (List ℕ)} → Each IsLine ls → Wide (joined fed ls)
unfolding fed
wide hs = record { columns = rw (lines_back hs) (all_wide hs); feeds = ap (joined fed) (sym (lines_back hs)) }

pub length_fed : {ls : List (List ℕ)} → Each IsLine ls → length (joined fed ls) ≡ 73 * length ls
unfolding joined fed
length_fed none = refl
length_fed (both {x = l} {l = ls} h hs) =
    omega (arith, length-append (fed l) (joined fed ls), length-append l (line_feed ∷ []), h.wide, length_fed hs)
