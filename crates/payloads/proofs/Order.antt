-- The order of payloads, and that the list ascends in it. Assumes nothing.
use mathlib.Core.Path.{refl, ◌∙◌}
use mathlib.Core.List.{List, [], ◌∷◌, map}
use mathlib.Core.Logic.{inl, inr, ⊎_elim}
use Prim.Native.Nat.{ℕ, zero, suc}
use native.Mathlib.Omega.{arith}
use borrow.Author.Tests.{lt-ltb}
use lib.Dec.{lit<}
use Rattle.laws.specs.Pick.{pick}
use Rattle.laws.specs.Bytes.{le}
use Rattle.laws.specs.Numbers.{numbers_from}
use Rattle.laws.specs.Parse.{joined}
use Rattle.laws.proofs.Ascending.{AscendingBy}
use Rattle.bincode.specs.Bincode.{vec_bytes, byte_string_bytes}
use Rattle.types.specs.Records.{statement_bytes, payload_bytes}
use Rattle.rows.specs.Rows.{compared}
use Rattle.rows.proofs.Lexicographic.{below_trans, irreflexive}
use Rattle.payloads.specs.Small.{Before, share_payload, small_payloads}

pub before_irreflexive : (s : List ℕ) → Before s s → ⊥
before_irreflexive s h = ⊎_elim (λ l. omega arith) (λ e. irreflexive s e.1) h

pub before_trans : (s t u : List ℕ) → Before s t → Before t u → Before s u
before_trans s t u h k =
    ⊎_elim
    (λ l. ⊎_elim (λ m. inl (omega arith)) (λ m. inl (omega (arith, m.0))) k)
    (λ l. ⊎_elim (λ m. inl (omega (arith, l.0))) (λ m. inr (l.0 ∙ m.0, below_trans s t u l.1 m.1)) k)
    h

-- two Shares of one byte differ in their last byte alone
share_before : (b : ℕ) → Before (share_payload (b ∷ [])) (share_payload (suc b ∷ []))
unfolding share_payload payload_bytes vec_bytes statement_bytes byte_string_bytes joined le compared pick
share_before b = inr (refl, rw (lt-ltb b (suc b) (omega arith)))

shares_ascend : (m n : ℕ) → AscendingBy Before (map (λ b. share_payload (b ∷ [])) (numbers_from m n))
unfolding numbers_from
shares_ascend m zero = tt
shares_ascend m (suc zero) = (tt, tt)
shares_ascend m (suc (suc n)) = (share_before m, shares_ascend (suc m) (suc n))

pub list_ascends : AscendingBy Before small_payloads
unfolding small_payloads share_payload payload_bytes vec_bytes statement_bytes byte_string_bytes joined le numbers_from
list_ascends = (inl (lit< tt), (inl (lit< tt), shares_ascend 0 256))
