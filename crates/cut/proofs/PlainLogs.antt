-- The plain log's start and answer are append's, and what an accepted answer says. Assumes nothing.
use mathlib.Core.Path.{◌≡◌, sym, ap, ◌∙◌, subst}
use mathlib.Core.Bool.{true, false}
use mathlib.Core.Logic.{◌⊎◌, inl, inr}
use Prim.Native.Nat.{ℕ, ◌+◌, ◌-◌, ◌*◌, ◌/◌, ◌^◌, ◌≤◌, ◌<◌, min}
use native.Mathlib.Nat.{add-mul, one-mul, add_assoc}
use native.Mathlib.Omega.{arith}
use lib.Dec.{leb}
use borrow.Author.Tests.{leb-true, le-leb}
use Rattle.laws.specs.Pick.{pick}
use Rattle.laws.proofs.Tests.{leb_cases}
use Rattle.wal_position.specs.Region.{region_start, next_region}
use Rattle.wal_position.specs.Checks.{log_check, unless}
use Rattle.wal_writer.specs.Append.{Placed, accepted, refused, start_for, within, place}
use Rattle.wal_position.proofs.Regions.{lt_next}
use Rattle.wal.proofs.Walks.{pick_first}
use Rattle.cut.specs.PlainLog.{multiple_above, plain_start, plain_answer}

-- ---- The plain log's start and answer

above_next : (k e : ℕ) → multiple_above k e ≡ next_region k e
unfolding multiple_above next_region region_start
above_next k e = add-mul (e / 2 ^ k) 1 (2 ^ k) ∙ ap (λ (n : ℕ). e / 2 ^ k * 2 ^ k + n) (one-mul (2 ^ k))

-- two tests that hold alike have one answer
same_test : (a b c d : ℕ) → (a ≤ b → c ≤ d) → (c ≤ d → a ≤ b) → leb a b ≡ leb c d
same_test a b c d to from =
    elim (leb_cases a b) [ inl h ↦ h.0 ∙ sym (le-leb c d (to h.1)) | inr h ↦ other h (leb_cases c d) ]
  where
    other : (leb a b ≡ false) × (b < a) → ((leb c d ≡ true) × (c ≤ d)) ⊎ ((leb c d ≡ false) × (d < c)) → leb a b ≡ leb c d
    other h (inl l) = absurd (omega (arith, from l.1))
    other h (inr l) = h.0 ∙ sym l.0

pub plain_start_lem : (k e n : ℕ) → plain_start k e n ≡ start_for k e n
unfolding plain_start start_for
plain_start_lem k e n =
    let far : e < next_region k e = lt_next k e in
    rw (above_next k e, same_test (n + 16) (next_region k e - e) (e + (n + 16)) (next_region k e) (omega arith) (omega arith))

module _ (k : ℕ) (least : 6 ≤ k) (most : k ≤ 28) (e size : ℕ) (fits : e ≤ min size (2 ^ 40)) where
  pub no_refusal : log_check k e size ≡ 0
  unfolding log_check pick
  no_refusal = rw (le-leb 6 k least, le-leb k 28 most, le-leb e (min size (2 ^ 40)) fits)

  pub plain_answer_lem : (n : ℕ) → plain_answer k size e n ≡ place k e size n
  unfolding plain_answer place within unless
  plain_answer_lem n = rw (no_refusal, plain_start_lem k e n, add_assoc (start_for k e n) n 16)

-- ---- An accepted answer

pub record Accepted (k size e n start : ℕ) : Type 0 where
  pub at : start ≡ start_for k e n
  pub small : n + 16 ≤ 2 ^ k
  pub room : start + (n + 16) ≤ min size (2 ^ 40)

-- whether an append was accepted
abbrev IsAccepted : Placed → Type 0
IsAccepted (accepted start) = Unit {0}
IsAccepted (refused n) = ⊥

is_accepted : {v : Placed} {start : ℕ} → v ≡ accepted start → IsAccepted v
is_accepted h = subst IsAccepted (sym h) tt

pub plain_accepted : (k size e n : ℕ) {start : ℕ} → plain_answer k size e n ≡ accepted start → Accepted k size e n start
unfolding plain_answer
plain_accepted k size e n {start} h =
    let h₁ = pick_first (leb (n + 16) (2 ^ k)) h is_accepted in
    let h₂ = pick_first (leb (plain_start k e n + n + 16) (min size (2 ^ 40))) h₁.1 is_accepted in
    let same : start ≡ plain_start k e n = cc in
    record {
      at = same ∙ plain_start_lem k e n;
      small = leb-true (n + 16) (2 ^ k) h₁.0;
      room = omega (arith, leb-true (plain_start k e n + n + 16) (min size (2 ^ 40)) h₂.0);
    }

-- the same three facts make the answer
pub plain_accepts : {k size e n start : ℕ} → Accepted k size e n start → plain_answer k size e n ≡ accepted start
unfolding plain_answer pick
plain_accepts {k} {size} {e} {n} {start} h =
    let at : start ≡ start_for k e n = h.at in
    rw (plain_start_lem k e n, ← at, le-leb (n + 16) (2 ^ k) h.small, le-leb (start + n + 16) (min size (2 ^ 40)) (omega arith))
