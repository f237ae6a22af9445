-- Entries laid out one behind the other: their places and bytes. Assumes nothing.
use mathlib.Core.Path.{◌≡◌, refl, sym, ap, ◌∙◌}
use mathlib.Core.Logic.{◌⊎◌, inl, inr}
use mathlib.Core.List.{List, [], ◌∷◌, ◌++◌, append_assoc}
use Prim.Native.Nat.{ℕ, ◌+◌, ◌-◌, ◌^◌, ◌≤◌, ◌<◌}
use native.Mathlib.Omega.{arith}
use lib.ListN.{length, length-append}
use Rattle.laws.specs.Pick.{pick}
use Rattle.laws.specs.Bytes.{zeros}
use Rattle.laws.proofs.Tests.{leb_cases}
use Rattle.laws.proofs.Written.{length_zeros}
use Rattle.entry.specs.Entry.{entry_bytes}
use Rattle.entry.proofs.EntryBytes.{length_entry_bytes}
use Rattle.wal_position.specs.Region.{next_region}
use Rattle.wal_reader.specs.Entries.{Entry, end_of}
use Rattle.wal_writer.specs.Append.{Placed, accepted, refused, start_for}
use Rattle.wal_position.proofs.Regions.{lt_next, next_whole, next_starts}
use Rattle.cut.specs.PlainLog.{Append, Log, no_entries, plain_answer, joined, plain_next, plain_log, bytes_from}
use Rattle.cut.specs.Cut.{last_end, Tags}
use Rattle.cut.proofs.PlainLogs.{Accepted, plain_accepted}

-- ---- Where an entry starts

-- at e, or at the next region's start if it would pass that
pub start_cases : (k e n : ℕ)
    → ((start_for k e n ≡ e) × (e + (n + 16) ≤ next_region k e))
    ⊎ ((start_for k e n ≡ next_region k e) × (next_region k e < e + (n + 16)))
unfolding start_for pick
start_cases k e n =
    elim (leb_cases (e + (n + 16)) (next_region k e)) [ inl h ↦ inl (rw h.0, h.1) | inr h ↦ inr (rw h.0, h.1) ]

pub start_ahead : (k e n : ℕ) → e ≤ start_for k e n
start_ahead k e n = elim (start_cases k e n) [ inl h ↦ omega arith | inr h ↦ omega (arith, lt_next k e) ]

-- it crosses no region's start
pub start_within : (k e n : ℕ) → n + 16 ≤ 2 ^ k → start_for k e n + (n + 16) ≤ next_region k (start_for k e n)
start_within k e n small =
    elim (start_cases k e n) [
      | inl h ↦ rw h.0 h.1
      | inr h ↦ rw (h.0, next_whole k (next_region k e) (next_starts k e)) (omega arith)
    ]

-- ---- Entries from e on

-- a stands behind e as append would put it
pub record Behind (k e : ℕ) (a : Entry) : Type 0 where
  pub at : a.start ≡ start_for k e (length a.payload)
  pub small : length a.payload + 16 ≤ 2 ^ k
  pub tag : a.tag < 2 ^ 32

pub data Laid (k : ℕ) : ℕ → List Entry → Type 0 where
  laid_none : {e : ℕ} → Laid k e []
  laid_next : {e : ℕ} {a : Entry} {rest : List Entry} → Behind k e a → Laid k (end_of a) rest → Laid k e (a ∷ rest)

pub behind : {k e : ℕ} {a : Entry} → Behind k e a → e ≤ a.start
behind {k} {e} {a} h = rw h.at (start_ahead k e (length a.payload))

pub end_ahead : {k e : ℕ} {a : Entry} → Behind k e a → e < end_of a
unfolding end_of
end_ahead h = omega (arith, behind h)

pub last_ahead : {k e : ℕ} {es : List Entry} → Laid k e es → e ≤ last_end e es
unfolding last_end
last_ahead laid_none = omega arith
last_ahead (laid_next h rest) = omega (arith, end_ahead h, last_ahead rest)

pub last_append : (e : ℕ) (es fs : List Entry) → last_end e (es ++ fs) ≡ last_end (last_end e es) fs
unfolding last_end
last_append e [] fs = refl
last_append e (a ∷ es) fs = last_append (end_of a) es fs

pub laid_append : {k e : ℕ} {es fs : List Entry} → Laid k e es → Laid k (last_end e es) fs → Laid k e (es ++ fs)
unfolding last_end
laid_append laid_none l = l
laid_append (laid_next h rest) l = laid_next h (laid_append rest l)

pub laid_left : {k e : ℕ} (es fs : List Entry) → Laid k e (es ++ fs) → Laid k e es
laid_left [] fs l = laid_none
laid_left {k = k} {e = e} (a ∷ es) fs (laid_next h rest) = laid_next h (laid_left {e = end_of a} es fs rest)

pub laid_right : {k e : ℕ} (es fs : List Entry) → Laid k e (es ++ fs) → Laid k (last_end e es) fs
unfolding last_end
laid_right [] fs l = l
laid_right {k = k} {e = e} (a ∷ es) fs (laid_next h rest) = laid_right {e = end_of a} es fs rest

-- ---- Their bytes

-- padding and entry, as append writes them behind e
abbrev pub own : ℕ → Entry → List ℕ
own e a = zeros (a.start - e) ++ entry_bytes a.tag a.payload

pub bytes_append : (e : ℕ) (es fs : List Entry) → bytes_from e (es ++ fs) ≡ bytes_from e es ++ bytes_from (last_end e es) fs
unfolding bytes_from last_end
bytes_append e [] fs = refl
bytes_append e (a ∷ es) fs =
    ap (λ (l : List ℕ). own e a ++ l) (bytes_append (end_of a) es fs)
    ∙ sym (append_assoc (own e a) (bytes_from (end_of a) es) (bytes_from (last_end (end_of a) es) fs))

-- they reach from e to the entry's end
pub length_own : (e : ℕ) (a : Entry) → e ≤ a.start → e + length (own e a) ≡ end_of a
unfolding end_of
length_own e a h = simp (length-append, length_zeros, length_entry_bytes) (omega arith)

pub length_bytes : {k e : ℕ} {es : List Entry} → Laid k e es → e + length (bytes_from e es) ≡ last_end e es
unfolding bytes_from last_end
length_bytes laid_none = omega arith
length_bytes (laid_next {e = e} {a = a} h l) =
    simp length-append (omega (arith, simp length-append at (length_own e a (behind h)), length_bytes l))

-- ---- The plain log's entries

-- laid out from 0 on, up to its end
pub record LaidLog (k : ℕ) (log : Log) : Type 0 where
  pub laid : Laid k 0 log.entries
  pub ends : last_end 0 log.entries ≡ log.end

pub laid_empty : (k : ℕ) → LaidLog k no_entries
unfolding no_entries last_end
laid_empty k = record { laid = laid_none; ends = refl }

module _ (k size : ℕ) where
  laid_joined : (log : Log) (a : Append) → a.tag < 2 ^ 32 → LaidLog k log → (v : Placed)
      → plain_answer k size log.end (length a.payload) ≡ v → LaidLog k (joined v log a)
  unfolding joined last_end end_of
  laid_joined log a small h (accepted start) is =
      let put : Accepted k size log.end (length a.payload) start = plain_accepted k size log.end (length a.payload) is in
      let b : Entry = record { start = start; tag = a.tag; payload = a.payload } in
      record {
        laid = laid_append h.laid (laid_next (rw h.ends (record { at = put.at; small = put.small; tag = small })) laid_none);
        ends = last_append 0 log.entries (b ∷ []) ∙ omega arith;
      }
  laid_joined log a small h (refused m) is = h

  pub laid_log : (log : Log) (appends : List Append) → Tags appends → LaidLog k log → LaidLog k (plain_log k size log appends)
  unfolding plain_log plain_next
  laid_log log [] tags h = h
  laid_log log (a ∷ rest) tags h =
      laid_log (plain_next k size log a) rest tags.1
      (laid_joined log a tags.0 h (plain_answer k size log.end (length a.payload)) refl)
