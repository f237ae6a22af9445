-- Laws of the refusals' numbers. Assumes nothing.
use mathlib.Core.Logic.{◌⊎◌, inl, inr}
use mathlib.Core.Path.{◌≡◌, refl, sym, ap, ◌∙◌}
use Prim.Native.Nat.{ℕ, zero, suc, ◌≤◌, ◌<◌}
use native.Mathlib.Omega.{arith}
use Rattle.std.specs.Prelude.{Result}
use Rattle.std.specs.Result.{IsErr, IsErrAnd}
use Rattle.std.proofs.Common.{Ok, Err}
use Rattle.std.proofs.lemmas.Result.{err_from_is_err_and}
use Rattle.laws.specs.Pick.{pick}
use Rattle.refusal.specs.declared.Refusal.{Refusal}
use Rattle.refusal.specs.declared.Refusal.TheVariants.{RegionExponent, Used, EntryTooLarge, ImageFull, ChecksumWithoutLength, Length, Checksum, Tag, Block, OwnBlock, Payload, Commit, Authority, SecondOwnBlock, Rows, NoEntry, PastUsed, Store, AfterRound}
use Rattle.refusal.specs.Tabled.{Tabled}
use Rattle.refusal.specs.Refusals.{number, number_of, refusal_of, checked}

-- each refusal is the one with its number
pub of_number : (r : Refusal) → refusal_of (number r) ≡ r
unfolding refusal_of pick
of_number RegionExponent = refl
of_number Used = refl
of_number EntryTooLarge = refl
of_number ImageFull = refl
of_number ChecksumWithoutLength = refl
of_number Length = refl
of_number Checksum = refl
of_number Tag = refl
of_number Block = refl
of_number OwnBlock = refl
of_number Payload = refl
of_number Commit = refl
of_number Authority = refl
of_number SecondOwnBlock = refl
of_number Rows = refl
of_number NoEntry = refl
of_number PastUsed = refl
of_number Store = refl
of_number AfterRound = refl

-- a check that passed, and one that did not
pub passed : (n : ℕ) → Ok tt ≡ checked n → n ≡ 0
unfolding checked
passed zero h = refl
passed (suc n) h = absurd (cc)

pub passes : {n : ℕ} → n ≡ 0 → Ok tt ≡ checked n
unfolding checked
passes z = ap checked (sym z)

pub not_passed : (n : ℕ) {r : Refusal} → Err r ≡ checked n → (n ≡ 0 → ⊥) × (r ≡ refusal_of n)
unfolding checked
not_passed zero h = absurd (cc)
not_passed (suc n) h = ((λ z. omega (arith, z)), cc)

pub tabled : (r : Refusal) → Tabled (number r)
tabled r = record { refusal = r; same = refl }

-- it is the number of the refusal that has it, and none is 0
pub numbered : {n : ℕ} → Tabled n → number (refusal_of n) ≡ n
numbered {n} t = ap (λ (m : ℕ). number (refusal_of m)) (sym t.same) ∙ ap number (of_number t.refusal) ∙ t.same

pub positive_number : (r : Refusal) → 0 < number r
positive_number RegionExponent = omega arith
positive_number Used = omega arith
positive_number EntryTooLarge = omega arith
positive_number ImageFull = omega arith
positive_number ChecksumWithoutLength = omega arith
positive_number Length = omega arith
positive_number Checksum = omega arith
positive_number Tag = omega arith
positive_number Block = omega arith
positive_number OwnBlock = omega arith
positive_number Payload = omega arith
positive_number Commit = omega arith
positive_number Authority = omega arith
positive_number SecondOwnBlock = omega arith
positive_number Rows = omega arith
positive_number NoEntry = omega arith
positive_number PastUsed = omega arith
positive_number Store = omega arith
positive_number AfterRound = omega arith

pub number_most : (r : Refusal) → number r ≤ 19
number_most RegionExponent = omega arith
number_most Used = omega arith
number_most EntryTooLarge = omega arith
number_most ImageFull = omega arith
number_most ChecksumWithoutLength = omega arith
number_most Length = omega arith
number_most Checksum = omega arith
number_most Tag = omega arith
number_most Block = omega arith
number_most OwnBlock = omega arith
number_most Payload = omega arith
number_most Commit = omega arith
number_most Authority = omega arith
number_most SecondOwnBlock = omega arith
number_most Rows = omega arith
number_most NoEntry = omega arith
number_most PastUsed = omega arith
number_most Store = omega arith
number_most AfterRound = omega arith

pub positive : {n : ℕ} → Tabled n → 0 < n
positive t = omega (arith, positive_number t.refusal, t.same)

-- what a `?` hands on: what it was given, as `From` has it
pub handed_on : {T E : Type 0} (r : Result T E) {e : E} → IsErr r × IsErrAnd r (λ y. y ≡ e) → r ≡ Err e
handed_on r h = let p = err_from_is_err_and r h.1 in rw (p.1, p.2)

-- a check was passed, or it was refused
pub checked_cases : (n : ℕ) → (n ≡ 0) ⊎ ((r : Refusal) × (Err r ≡ checked n))
unfolding checked
checked_cases zero = inl refl
checked_cases (suc n) = inr (refusal_of (suc n), refl)

-- the number that a check answers is its number
pub checked_number : (n : ℕ) → ((n ≡ 0 → ⊥) → Tabled n) → number_of (checked n) ≡ n
unfolding number_of checked
checked_number zero t = refl
checked_number (suc n) t = numbered (t (λ z. omega (arith, z)))
