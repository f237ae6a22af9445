-- Parsers by position. A parser is given the bytes and a place among them, and gives the value that stands there and the place where
-- it ends, or nothing. What follows that end is never looked at.
use Rattle.std.specs.Prelude.{List, [], ◌∷◌, ◌++◌, ℕ, zero, suc, ◌+◌, length, leb}
use Rattle.laws.specs.Pick.{pick}
use Rattle.laws.specs.Bytes.{bytes_at, of_le}

-- nothing that the parser takes, or a value and the place where it ends
pub data Res (A : Type 0) : Type 0 where
  bad : Res A
  got : A → ℕ → Res A

abbrev pub Parser : Type 0 → Type 0
Parser A = List ℕ → ℕ → Res A

-- what comes next, from the value and its end
unfoldable pub then : {A B : Type 0} → Res A → (A → ℕ → Res B) → Res B
then bad k = bad
then (got a e) k = k a e

-- n bytes
unfoldable pub raw : ℕ → Parser (List ℕ)
raw n s p = pick (leb (p + n) (length s)) (got (bytes_at s p n) (p + n)) bad

-- a number in w bytes, the least significant first
unfoldable pub number : ℕ → Parser ℕ
number w s p = then (raw w s p) (λ bytes e. got (of_le bytes) e)

-- n elements in a row. The first that is bad ends it, so that a count of any size costs no more than the bytes that are there.
unfoldable pub many : {A : Type 0} → Parser A → ℕ → Parser (List A)
many f zero s p = got [] p
many f (suc n) s p = then (f s p) (λ x q. then (many f n s q) (λ xs e. got (x ∷ xs) e))

-- the layouts of elements in a row
unfoldable pub joined : {A : Type 0} → (A → List ℕ) → List A → List ℕ
joined f [] = []
joined f (x ∷ xs) = f x ++ joined f xs

-- What a decoder answers: `none` where the parser finds nothing, and `some` of the value and its end otherwise.
unfoldable pub answer : {A B : Type 0} → B → (A → ℕ → B) → Res A → B
answer none some bad = none
answer none some (got a e) = some a e
