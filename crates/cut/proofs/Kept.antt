-- The entries that end by c are the first ones, and the last of them ends by c. Assumes nothing.
use mathlib.Core.Path.{◌≡◌, refl}
use mathlib.Core.Logic.{inl, inr}
use mathlib.Core.List.{List, ◌∷◌}
use Prim.Native.Nat.{ℕ, suc, ◌≤◌, ◌<◌}
use native.Mathlib.Omega.{arith}
use lib.ListN.{take}
use borrow.Author.Tests.{le-leb, lt-leb}
use Rattle.laws.specs.Pick.{pick}
use Rattle.laws.proofs.Tests.{leb_cases}
use Rattle.wal_reader.specs.Entries.{Entry, end_of}
use Rattle.cut.specs.Cut.{ending_by, last_end}
use Rattle.cut.proofs.Layouts.{Laid, laid_none, laid_next, end_ahead}

pub one_more : (c : ℕ) (a : Entry) (rest : List Entry) → end_of a ≤ c → ending_by c (a ∷ rest) ≡ suc (ending_by c rest)
unfolding ending_by pick
one_more c a rest h = rw (le-leb (end_of a) c h)

-- the entries from c on end past c
pub none_by : (c : ℕ) {k e : ℕ} {es : List Entry} → Laid k e es → c ≤ e → ending_by c es ≡ 0
unfolding ending_by pick
none_by c laid_none h = refl
none_by c (laid_next {a = a} {rest = rest} put laid) h =
    let past : c < end_of a = omega (arith, end_ahead put) in
    rw (lt-leb (end_of a) c past) (none_by c laid (omega arith))

-- and so do those behind an entry that does
pub none_more : (c : ℕ) {k : ℕ} (a : Entry) {rest : List Entry} → Laid k (end_of a) rest → c < end_of a → ending_by c (a ∷ rest) ≡ 0
unfolding ending_by pick
none_more c a laid h = rw (lt-leb (end_of a) c h) (none_by c laid (omega arith))

-- where the walk resumes lies by c
pub kept_by : (c : ℕ) {k e : ℕ} {es : List Entry} → Laid k e es → e ≤ c → last_end e (take (ending_by c es) es) ≤ c
unfolding ending_by last_end
kept_by c laid_none h = h
kept_by c (laid_next {a = a} {rest = rest} put laid) h =
    elim (leb_cases (end_of a) c) [
      | inl l ↦ rw (one_more c a rest l.1) (kept_by c laid l.1)
      | inr l ↦ rw (none_more c a laid l.1) h
    ]
