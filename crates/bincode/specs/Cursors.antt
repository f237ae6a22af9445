-- A pass over elements in a row: a cursor is the place of the next one and how many are left.
use Rattle.std.specs.Prelude.{List, ℕ, zero, suc, ◌-◌, eqb}
use Rattle.laws.specs.Pick.{pick}
use Rattle.laws.specs.Parse.{Res, bad, Parser, answer}
use Rattle.bincode.specs.declared.Cursor.{Cursor}

-- the next element: none where none is left
unfoldable pub next_element : {A : Type 0} → Parser A → List ℕ → Cursor → Res A
next_element f s c = pick (eqb c.left 0) bad (f s c.at)

-- the cursor moved behind an element that ends at e
abbrev pub past : Cursor → ℕ → Cursor
past c e = record { at = e; left = c.left - 1 }

-- the cursor after i steps; it stays where there is no element
unfoldable pub after : {A : Type 0} → Parser A → List ℕ → ℕ → Cursor → Cursor
after f s zero c = c
after f s (suc i) c = answer c (λ x e. after f s i (past c e)) (next_element f s c)
