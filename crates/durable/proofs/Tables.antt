-- Recovery with other tables than those of L. Assumes nothing.
use mathlib.Core.Path.{◌≡◌, refl, sym, ap, ◌∙◌}
use mathlib.Core.List.{List, [], ◌∷◌, ◌++◌}
use mathlib.Core.Logic.{◌⊎◌, inl, inr, ⊎_elim}
use Prim.Native.Nat.{ℕ, zero, suc, ◌+◌}
use native.Mathlib.Omega.{arith}
use lib.ListN.{length}
use Rattle.laws.proofs.Tests.{leb_cases, eqb_cases}
use Rattle.wal_position.specs.Checks.{log_check, unless}
use Rattle.wal_position.proofs.Checks.{unless_passed}
use Rattle.wal_reader.specs.Entries.{Entry}
use Rattle.wal.specs.Walk.{Stop, Walk, walk_at}
use Rattle.committee.specs.Committee.{committee_check}
use Rattle.replay.specs.Items.{Classified, refuse, item, classify, ReplayEntry, block_in}
use Rattle.replay.specs.Rules.{blocks, pending, unprocessed, committed, index}
use Rattle.replay.specs.Recovery.{Lent, Recovery, refused, recovered, Scanned, scan, refused_at, block_check, rows_check, entry_check, replayed, recover}
use Rattle.state.proofs.Checks.{check_classified, check_block, check_full, check_passes, rows_pass, pending_full, unprocessed_full, committed_full, index_full}
use Rattle.replay_log.proofs.Scanning.{concluded, replayed_from, replayed_whole}
use Rattle.durable.specs.Durable.{AtLeast, LargerTables, OtherTables}
use Rattle.durable.proofs.Scans.{scan_passes, scan_refuses}
use Rattle.durable.proofs.Recoveries.{not_refused, recovers_to_end}
use Rattle.durable.proofs.Durability.{durability}

-- ---- Larger tables

-- the rows that some entries need
abbrev needed : List ReplayEntry → Lent
needed l =
    record {
      pending = length (pending l);
      unprocessed = length (unprocessed l);
      committed = length (committed l);
      index = length (index l);
    }

at_least_trans : (a b c : Lent) → AtLeast a b → AtLeast b c → AtLeast a c
at_least_trans a b c h l = omega arith

enough_passes : (lent : Lent) (l : List ReplayEntry) → AtLeast (needed l) lent → rows_check lent l ≡ 0
enough_passes lent l h = rows_pass lent l h.pending h.unprocessed h.committed h.index

-- either there are enough, or 15 is given
rows_cases : (lent : Lent) (l : List ReplayEntry) → AtLeast (needed l) lent ⊎ (rows_check lent l ≡ 15)
rows_cases lent l =
    ⊎_elim
    (λ p. ⊎_elim
    (λ u. ⊎_elim
    (λ c. ⊎_elim
    (λ i. inl (record { pending = p.1; unprocessed = u.1; committed = c.1; index = i.1 }))
    (λ i. inr (index_full lent l i.1))
    (leb_cases (needed l).index lent.index))
    (λ c. inr (committed_full lent l c.1))
    (leb_cases (needed l).committed lent.committed))
    (λ u. inr (unprocessed_full lent l u.1))
    (leb_cases (needed l).unprocessed lent.unprocessed))
    (λ p. inr (pending_full lent l p.1))
    (leb_cases (needed l).pending lent.pending)

unless_same : {A : Type 0} (n : ℕ) (f : ℕ → A) {x y : A} → (n ≡ 0 → x ≡ y) → unless n f x ≡ unless n f y
unfolding unless
unless_same zero f h = h refl
unless_same (suc n) f h = refl

module _ (size own : ℕ) (lent more : Lent) (larger : AtLeast lent more) where
  entry_same : (before : List ReplayEntry) (a : Entry) → (entry_check size own lent before a ≡ refuse 15 → ⊥)
      → entry_check size own more before a ≡ entry_check size own lent before a
  entry_same before a enough = from (classify a) refl
    where
      from : (x : Classified) → classify a ≡ x → entry_check size own more before a ≡ entry_check size own lent before a
      from (refuse n) is = check_classified size own more before a is ∙ sym (check_classified size own lent before a is)
      from (item j) is =
          ⊎_elim
          (λ free. ⊎_elim
          (λ fits.
          check_passes size own more before a is free.1 (enough_passes more _ (at_least_trans _ lent more fits larger))
          ∙ sym (check_passes size own lent before a is free.1 (enough_passes lent _ fits)))
          (λ full. absurd (enough (check_full size own lent before a is free.1 full)))
          (rows_cases lent (before ++ (record { entry = a; item = j } ∷ []))))
          (λ some. check_block size own more before a is some.1 ∙ sym (check_block size own lent before a is some.1))
          (eqb_cases (block_check size own (blocks before) (block_in j)) 0)

  scan_same : (before : List ReplayEntry) (es : List Entry) → ((p : ℕ) → scan size own lent before es ≡ refused_at 15 p → ⊥)
      → scan size own more before es ≡ scan size own lent before es
  unfolding scan
  scan_same before [] enough = refl
  scan_same before (a ∷ es) enough = from (entry_check size own lent before a) refl (λ x. scan_same (before ++ (x ∷ [])) es)
    where
      entry : entry_check size own more before a ≡ entry_check size own lent before a
      entry = entry_same before a (λ full. enough a.start (scan_refuses size own lent before a es full))

      from : (j : Classified) → entry_check size own lent before a ≡ j
          → ((x : ReplayEntry) → ((p : ℕ) → scan size own lent (before ++ (x ∷ [])) es ≡ refused_at 15 p → ⊥)
          → scan size own more (before ++ (x ∷ [])) es ≡ scan size own lent (before ++ (x ∷ [])) es)
          → scan size own more before (a ∷ es) ≡ scan size own lent before (a ∷ es)
      from (refuse n) is rest = scan_refuses size own more before a es (entry ∙ is) ∙ sym (scan_refuses size own lent before a es is)
      from (item i) is rest =
          scan_passes size own more before a es (entry ∙ is)
          ∙ rest (record { entry = a; item = i }) (λ p full. enough p (scan_passes size own lent before a es is ∙ full))
          ∙ sym (scan_passes size own lent before a es is)

  replayed_same : (w : Walk) → ((p : ℕ) → replayed size own lent w ≡ refused 15 p → ⊥)
      → replayed size own more w ≡ replayed size own lent w
  unfolding replayed_from concluded
  replayed_same w enough =
      replayed_whole size own more w
      ∙ ap (λ (x : Scanned). concluded x w.ending)
      (scan_same [] w.entries (λ p full. enough p (replayed_whole size own lent w ∙ ap (λ (x : Scanned). concluded x w.ending) full)))
      ∙ sym (replayed_whole size own lent w)

pub larger_tables : LargerTables
unfolding recover
larger_tables k s used size own lent more larger enough =
    unless_same (log_check k used (length s)) (λ n. refused n 0)
    (λ log. unless_same (committee_check size own) (λ n. refused n 0)
    (λ committee. replayed_same size own lent more larger (walk_at k s used 0 0)
    (λ p full. enough p
    (unless_passed (λ n. refused n 0) (unless (committee_check size own) (λ n. refused n 0) (replayed size own lent (walk_at k s used 0 0)))
    (log_check k used (length s)) log
    ∙ unless_passed (λ n. refused n 0) (replayed size own lent (walk_at k s used 0 0)) (committee_check size own) committee
    ∙ full))))

-- no recovery that is not refused is refused with 15
module _ (k : ℕ) (s : List ℕ) (used size own : ℕ) (lent : Lent) {word : Stop} {e : ℕ} {l : List ReplayEntry}
    (h : recover k s used size own lent ≡ recovered word e l) where
  not_full : (p : ℕ) → recover k s used size own lent ≡ refused 15 p → ⊥
  not_full p full =
      let no : recovered word e l ≡ refused 15 p = sym h ∙ full in
      let z : ◌≡◌ {A = ℕ} 0 1 = cc in
      omega arith

  pub served_larger : (more : Lent) → AtLeast lent more → recover k s used size own more ≡ recovered word e l
  served_larger more larger = larger_tables k s used size own lent more larger not_full ∙ h

-- ---- Other tables

-- at least as large as both
abbrev both : Lent → Lent → Lent
both a b =
    record {
      pending = a.pending + b.pending;
      unprocessed = a.unprocessed + b.unprocessed;
      committed = a.committed + b.committed;
      index = a.index + b.index;
    }

first_fits : (a b : Lent) → AtLeast a (both a b)
first_fits a b = record { pending = omega arith; unprocessed = omega arith; committed = omega arith; index = omega arith }

second_fits : (a b : Lent) → AtLeast b (both a b)
second_fits a b = record { pending = omega arith; unprocessed = omega arith; committed = omega arith; index = omega arith }

pub other_tables : OtherTables
other_tables k L s size own lent word l given t used h other =
    let more : Lent = both lent other in
    let at = durability k L s size own more word l (served_larger k s L size own lent given more (first_fits lent other)) t used h in
    record {
      recovers =
          λ w e m is.
          let served = at.recovers w e m (served_larger k t used size own other is more (second_fits lent other)) in
          record {
            from = served.from;
            begins = served.begins;
            again = recovers_to_end k t used size own other (not_refused k t used size own other is);
          };
      recovery_refused =
          λ n p is other_than.
          at.recovery_refused n p
          (larger_tables k t used size own other more (second_fits lent other)
          (λ q full. other_than (let same : refused n p ≡ refused 15 q = sym is ∙ full in cc))
          ∙ is);
    }

-- a recovery that is not refused with some tables gives the same with others, or 15
pub same_or_full : (k : ℕ) (s : List ℕ) (used size own : ℕ) (lent other : Lent) {word : Stop} {e : ℕ} {l : List ReplayEntry}
    → recover k s used size own lent ≡ recovered word e l
    → (recover k s used size own other ≡ recovered word e l) ⊎ ((p : ℕ) × (recover k s used size own other ≡ refused 15 p))
same_or_full k s used size own lent other {word} {e} {l} h = from (recover k s used size own other) refl
  where
    same : ((p : ℕ) → recover k s used size own other ≡ refused 15 p → ⊥) → recover k s used size own other ≡ recovered word e l
    same enough =
        sym (larger_tables k s used size own other (both lent other) (second_fits lent other) enough)
        ∙ served_larger k s used size own lent h (both lent other) (first_fits lent other)

    from : (x : Recovery) → recover k s used size own other ≡ x
        → (recover k s used size own other ≡ recovered word e l) ⊎ ((p : ℕ) × (recover k s used size own other ≡ refused 15 p))
    from (recovered w f m) is = inl (same (not_full k s used size own other is))
    from (refused n p) is =
        ⊎_elim
        (λ c. inr (p, is ∙ ap (λ (m : ℕ). refused m p) c.1))
        (λ c. inl (same (λ q full. c.1 (let both : refused n p ≡ refused 15 q = sym is ∙ full in cc))))
        (eqb_cases n 15)
