-- A list of appends does what the plain log does: the invariant of a run. Assumes nothing.
use mathlib.Core.Path.{◌≡◌, refl, sym, ap, ap₂, ◌∙◌}
use mathlib.Core.List.{List, [], ◌∷◌, ◌++◌, append-nil}
use Prim.Native.Nat.{ℕ, ◌+◌, ◌^◌, ◌≤◌, min}
use native.Mathlib.Omega.{arith}
use lib.ListN.{length, take}
use Rattle.laws.specs.Bytes.{written}
use Rattle.laws.proofs.Written.{length_written, take_end_written}
use Rattle.wal_reader.specs.Entries.{Entry, end_of}
use Rattle.wal_writer.specs.Append.{Placed, accepted, refused, image_after}
use Rattle.cut.specs.PlainLog.{Append, Log, no_entries, plain_answer, joined, plain_next, plain_log, bytes_from, log_bytes}
use Rattle.cut.specs.Cut.{LogImage, used_after, answer_of, after_append, after, store_seen, plain_seen, last_end}
use Rattle.cut.proofs.PlainLogs.{Accepted, plain_answer_lem, plain_accepted}
use Rattle.cut.proofs.Layouts.{start_ahead, last_append, own, length_own, bytes_append}

-- the store's image, of that size, holds the plain log
pub record Holding (size : ℕ) (log : Log) (st : LogImage) : Type 0 where
  pub room : length st.image ≡ size
  pub used : st.used ≡ log.end
  pub ends : last_end 0 log.entries ≡ log.end
  pub fits : log.end ≤ min size (2 ^ 40)
  pub bytes : take log.end st.image ≡ log_bytes log

pub empty : (image : List ℕ) → Holding (length image) no_entries (record { used = 0; image = image })
unfolding no_entries last_end log_bytes bytes_from
empty image = record { room = refl; used = refl; ends = refl; fits = omega arith; bytes = refl }

-- what an append leaves by its answer
abbrev stored : Placed → LogImage → Append → LogImage
stored v st a =
    record {
      used = used_after v st.used (length a.payload);
      image = image_after v st.used st.image a.tag a.payload;
    }

module _ (k size : ℕ) (log : Log) (st : LogImage) (a : Append) (h : Holding size log st) where
  -- an accepted append writes padding and entry behind the log
  joins : (start : ℕ) → Accepted k size log.end (length a.payload) start
      → Holding size (joined (accepted start) log a) (stored (accepted start) st a)
  unfolding joined used_after image_after log_bytes bytes_from last_end end_of
  joins start put =
      let b : Entry = record { start = start; tag = a.tag; payload = a.payload } in
      let v : List ℕ = own st.used b in
      let ahead : log.end ≤ start = rw put.at (start_ahead k log.end (length a.payload)) in
      let long : st.used + length v ≡ start + (length a.payload + 16) = length_own st.used b (omega arith) in
      let whole : start + length a.payload + 16 ≡ st.used + length v = omega arith in
      let held : take st.used st.image ≡ log_bytes log = rw h.used h.bytes in
      let same : st.used ≡ last_end 0 log.entries = h.used ∙ sym h.ends in
      record {
        room = length_written st.image st.used v (omega arith) ∙ h.room;
        used = omega arith;
        ends = last_append 0 log.entries (b ∷ []) ∙ omega arith;
        fits = omega arith;
        bytes =
            ap (λ (m : ℕ). take m (written st.image st.used v)) whole
            ∙ take_end_written st.image st.used v (omega arith)
            ∙ ap (λ (l : List ℕ). l ++ v) held
            ∙ ap (λ (e : ℕ). log_bytes log ++ own e b) same
            ∙ ap (λ (l : List ℕ). log_bytes log ++ l) (sym (append-nil (own (last_end 0 log.entries) b)))
            ∙ sym (bytes_append 0 log.entries (b ∷ []));
      }

  answered : (v : Placed) → plain_answer k size log.end (length a.payload) ≡ v → Holding size (joined v log a) (stored v st a)
  unfolding joined used_after image_after
  answered (accepted start) is = joins start (plain_accepted k size log.end (length a.payload) is)
  answered (refused m) is = h

module _ (k : ℕ) (least : 6 ≤ k) (most : k ≤ 28) (size : ℕ) where
  pub same_answer : (log : Log) (st : LogImage) (a : Append) → Holding size log st
      → answer_of k st a ≡ plain_answer k size log.end (length a.payload)
  unfolding answer_of
  same_answer log st a h =
      rw (h.used, h.room) (sym (plain_answer_lem k least most log.end size h.fits (length a.payload)))

  pub held_next : (log : Log) (st : LogImage) (a : Append) → Holding size log st → Holding size (plain_next k size log a) (after_append k st a)
  unfolding after_append plain_next
  held_next log st a h =
      rw (same_answer log st a h) (answered k size log st a h (plain_answer k size log.end (length a.payload)) refl)

  -- after a list of appends the image holds the plain log
  pub run : (log : Log) (st : LogImage) (appends : List Append) → Holding size log st
      → Holding size (plain_log k size log appends) (after k st appends)
  unfolding plain_log after
  run log st [] h = h
  run log st (a ∷ rest) h = run (plain_next k size log a) (after_append k st a) rest (held_next log st a h)

  -- and after each of them answer, used and bytes were the plain log's
  pub same_seen : (log : Log) (st : LogImage) (appends : List Append) → Holding size log st
      → store_seen k st appends ≡ plain_seen k size log appends
  unfolding store_seen plain_seen
  same_seen log st [] h = refl
  same_seen log st (a ∷ rest) h =
      let then : Holding size (plain_next k size log a) (after_append k st a) = held_next log st a h in
      let bytes : take (after_append k st a).used (after_append k st a).image ≡ log_bytes (plain_next k size log a) = rw then.used then.bytes in
      ap₂ ◌∷◌ (λ i. record { answer = same_answer log st a h i; used = then.used i; bytes = bytes i })
      (same_seen (plain_next k size log a) (after_append k st a) rest then)
