-- A refusal's number is of document 01's table, so that the answer tells which it is; and an answer that is none tells an accepted insert.
-- Assumes nothing.
use mathlib.Core.Path.{◌≡◌, refl, subst}
use mathlib.Core.Logic.{⊎_elim}
use mathlib.Core.List.{List}
use Prim.Native.Nat.{ℕ, zero, suc, ◌+◌, ◌/◌, ◌^◌, min}
use native.Mathlib.Omega.{arith}
use lib.Dec.{leb}
use lib.ListN.{length}
use Rattle.std.proofs.Common.{Option, Some, None, Ok}
use Rattle.laws.proofs.Tests.{eqb_cases}
use Rattle.refusal.specs.declared.Refusal.TheVariants.{EntryTooLarge, ImageFull, Rows, Store}
use Rattle.refusal.specs.Tabled.{Tabled}
use Rattle.refusal.proofs.Numbers.{tabled}
use Rattle.types.specs.declared.BlockReference.{BlockReference}
use Rattle.wal_position.specs.Checks.{log_check, unless}
use Rattle.wal_position.proofs.Checks.{log_tabled}
use Rattle.wal_writer.specs.declared.WalWriter.{WalWriter}
use Rattle.wal_writer.specs.Append.{Placed, accepted, refused, start_for, within, place}
use Rattle.rows.specs.Rows.{ascendingb}
use Rattle.tables.specs.Tables.{upsert_count}
use Rattle.committee.specs.Committee.{committee_check}
use Rattle.committee.proofs.Checks.{committee_tabled}
use Rattle.state.specs.Checks.{block_number}
use Rattle.state.proofs.BlockEntries as entries
use Rattle.store.specs.declared.BlockStore.{BlockStore}
use Rattle.store.specs.Store.{indexed, authorities_below, store_check, call_check}
use Rattle.indexing.specs.declared.Inserted.{Inserted}
use Rattle.indexing.specs.Indexing.{Insertion, refuse, insert, loaded_row, indexing, inserted_of}
use Rattle.insert.specs.Insert.{Decoded, good, decoded_reference, insertion}
use Rattle.insert.specs.Insert as definitions
use Rattle.indexing.proofs.Indexing.{block_refused, index_full, index_counted}
use Rattle.insert.proofs.Inserting.{call_refused, place_refused, undecoded, decoded}
use Rattle.insert.proofs.Decoding.{either, DecodedTabled, block_tabled}

-- what goes on behind a check
unless_either : {A : Type 0} (P : A → Type 0) (f : ℕ → A) (n : ℕ) (x : A) → ((n ≡ 0 → ⊥) → P (f n)) → P x → P (unless n f x)
unfolding unless
unless_either P f zero x r h = h
unless_either P f (suc n) x r h = r (λ z. omega (arith, z))

-- ---- 1, 2 and 18

abbrev TabledCheck : ℕ → Type 0
TabledCheck n = (n ≡ 0 → ⊥) → Tabled n

store_tabled : (s : BlockStore) (index : List ℕ) → TabledCheck (store_check s index)
unfolding store_check
store_tabled s index =
    let no = λ (h : ◌≡◌ {A = ℕ} 18 0 → ⊥). tabled Store in
    unless_either TabledCheck (λ n. n) (committee_check s.committee_size s.authority) _ (λ h z. committee_tabled s.committee_size s.authority h)
    (either TabledCheck (leb s.rows (length index / 8))
    (either TabledCheck (ascendingb (indexed s index))
    (either TabledCheck (authorities_below s.committee_size (indexed s index)) (λ h. absurd (h refl)) no)
    no)
    no)

pub call_tabled : (k used size : ℕ) (s : BlockStore) (index : List ℕ) → TabledCheck (call_check k used size s index)
unfolding call_check
call_tabled k used size s index =
    unless_either TabledCheck (λ n. n) (log_check k used size) _ (λ h z. log_tabled k used size h) (store_tabled s index)

-- ---- 3 and 4

abbrev pub PlaceTabled : Placed → Type 0
PlaceTabled (accepted start) = Unit {0}
PlaceTabled (refused n) = Tabled n

pub place_tabled : (k used size n : ℕ) → PlaceTabled (place k used size n)
unfolding place within
place_tabled k used size n =
    unless_either PlaceTabled refused (log_check k used size) _ (log_tabled k used size)
    (either PlaceTabled (leb (n + 16) (2 ^ k))
    (either PlaceTabled (leb (start_for k used n + (n + 16)) (min size (2 ^ 40))) tt (tabled ImageFull))
    (tabled EntryTooLarge))

-- ---- All of them

abbrev pub InsertionTabled : Insertion → Type 0
InsertionTabled (refuse n) = Tabled n
InsertionTabled (insert start r n) = Unit {0}

index_tabled : (s : BlockStore) (index : List ℕ) (start : ℕ) (r : BlockReference) → InsertionTabled (indexing s index start r)
index_tabled s index start r =
    ⊎_elim
    (λ z. stored z.1 (upsert_count index s.rows (loaded_row r start)) refl)
    (λ m. rw (block_refused s index start r m.1) (entries.block_tabled s.committee_size s.authority (indexed s index) r m.1))
    (eqb_cases (block_number s.committee_size s.authority (indexed s index) r) 0)
  where
    stored : block_number s.committee_size s.authority (indexed s index) r ≡ 0 → (u : Option ℕ)
        → upsert_count index s.rows (loaded_row r start) ≡ u → InsertionTabled (indexing s index start r)
    stored z (Some n) is = rw (index_counted s index start r z refl is) tt
    stored z None is = rw (index_full s index start r z refl is) (tabled Rows)

pub insertion_tabled : (w : WalWriter) (size : ℕ) (s : BlockStore) (index : List ℕ) (tag : ℕ) (payload : List ℕ)
    → InsertionTabled (insertion w size s index tag payload)
insertion_tabled w size s index tag payload =
    ⊎_elim
    (λ z. placed z.1 (place w.exponent w.used size (length payload)) refl)
    (λ m. rw (call_refused w size s index tag payload m.1) (call_tabled w.exponent w.used size s index m.1))
    (eqb_cases (call_check w.exponent w.used size s index) 0)
  where
    holding : call_check w.exponent w.used size s index ≡ 0 → (start : ℕ)
        → place w.exponent w.used size (length payload) ≡ accepted start
        → (d : Decoded) → decoded_reference tag payload ≡ d → InsertionTabled (insertion w size s index tag payload)
    holding z start at (definitions.Decoded.bad n) is =
        rw (undecoded w size s index tag payload z at is) (subst DecodedTabled is (block_tabled tag payload))
    holding z start at (good r) is = rw (decoded w size s index tag payload z at is) (index_tabled s index start r)

    placed : call_check w.exponent w.used size s index ≡ 0 → (p : Placed)
        → place w.exponent w.used size (length payload) ≡ p → InsertionTabled (insertion w size s index tag payload)
    placed z (accepted start) is = holding z start is (decoded_reference tag payload) refl
    placed z (refused n) is =
        rw (place_refused w size s index tag payload z is)
        (subst PlaceTabled is (place_tabled w.exponent w.used size (length payload)))

-- ---- An answer that is no refusal

-- what an insert that was not refused has put, and where
pub record Put (x : Insertion) : Type 0 where
  pub start : ℕ
  pub reference : BlockReference
  pub rows : ℕ
  pub is : x ≡ insert start reference rows

pub ok_accepted : (w : WalWriter) (s : BlockStore) (n : ℕ) (x : Insertion) {i : Inserted} → Ok i ≡ inserted_of w s n x → Put x
unfolding inserted_of
ok_accepted w s n (refuse m) e = absurd (cc)
ok_accepted w s n (insert start r m) e = record { start = start; reference = r; rows = m; is = refl }
