-- What decoders answer: None where the parser finds nothing, and otherwise Some of the value, with the place of what is variable in
-- length in the place of that, and the place behind it.
use Rattle.std.specs.Prelude.{List, ℕ, ◌+◌, length, Option, Some, None}
use Rattle.std.proofs.Math.Option.{Option as Optional, none, some}
use Rattle.laws.specs.Parse.{Res, answer}
use Rattle.bincode.specs.declared.Cursor.{Cursor}
use Rattle.bincode.specs.Cursors.{past}

-- of a value that is answered as f makes it of the value and its end
abbrev pub decoded_as : {A B : Type 0} → (A → ℕ → B) → Res A → Option (B × ℕ)
decoded_as f = answer None (λ x e. Some (f x e, e))

-- of a value that is answered as it is, wherever it stands
abbrev pub as_it_is : {A : Type 0} → ℕ → A → ℕ → A
as_it_is p x e = x

abbrev pub decoded : {A : Type 0} → Res A → Option (A × ℕ)
decoded = decoded_as (λ x e. x)

-- of elements behind a count of 8 bytes that stands at p: a cursor at the first
abbrev pub list_answer : {A : Type 0} → ℕ → Res (List A) → Option (Cursor × ℕ)
list_answer p = decoded_as (λ xs e. record { at = p + 8; left = length xs })

-- where elements end
abbrev pub end_answer : {A : Type 0} → Res A → Option ℕ
end_answer = answer None (λ x e. Some e)

-- of the next element of the cursor c, and the cursor behind it
abbrev pub next_answer : {A B : Type 0} → (A → ℕ → B) → Cursor → Res A → Option (B × Cursor)
next_answer f c = answer None (λ x e. Some (f x e, past c e))

-- of an option at p, whose value stands behind a tag of one byte and is answered as f makes it
abbrev pub option_as : {A B : Type 0} → (ℕ → A → ℕ → B) → ℕ → Optional A → ℕ → Option B
option_as f p none e = None
option_as f p (some x) e = Some (f (p + 1) x e)
