-- The walk over the first c bytes of a log lists the entries that end by c, and names the end of the last. Assumes nothing.
use mathlib.Core.Path.{◌≡◌, refl, sym, ap, ◌∙◌, subst}
use mathlib.Core.Logic.{inl, inr}
use mathlib.Core.List.{List, [], ◌++◌, append_assoc}
use Prim.Native.Nat.{ℕ, ◌+◌, ◌-◌, ◌^◌, ◌≤◌, ◌<◌}
use native.Mathlib.Omega.{arith}
use lib.Dec.{eqb}
use lib.ListN.{length, take, drop}
use borrow.Author.Tests.{ne_eqb}
use Rattle.laws.specs.Pick.{pick}
use Rattle.laws.specs.Bytes.{zeros}
use Rattle.laws.proofs.Tests.{leb_cases}
use Rattle.laws.proofs.Written.{length_zeros}
use Rattle.checksum.specs.Crc32.{crc32}
use Rattle.entry.specs.Entry.{entry_bytes, checksum_at, length_at, tag_at, payload_at}
use Rattle.wal_position.specs.Region.{region_start, next_region}
use Rattle.wal_position.specs.Checks.{log_check, unless}
use Rattle.wal_reader.specs.Look.{whole, look_at}
use Rattle.wal_reader.specs.Entries.{Entry, end_of}
use Rattle.wal.specs.Walk.{Stop, Walk, END, ZEROS, TORN, stop, go, list, move, move_at, walk_at, listing, stopped, walk}
use Rattle.wal.specs.Answers.{walked_of}
use Rattle.wal_position.proofs.Checks.{passed_sound}
use Rattle.wal_position.proofs.Regions.{size_most}
use Rattle.wal.proofs.Steps.{walk_by_steps}
use Rattle.wal_reader.proofs.Looks.{look_past, look_region_full, look_no_header, look_blank, look_cut, look_whole}
use Rattle.wal.proofs.Walks.{walk_stop, walk_go, walk_list}
use Rattle.cut.specs.PlainLog.{Log, bytes_from, log_bytes}
use Rattle.cut.specs.Cut.{ending_by, last_end, Holds, kept, resume_at, AllStand, ReadsBack}
use Rattle.cut.proofs.Standing.{walk_stands}
use Rattle.cut.proofs.Lists.{drop_past}
use Rattle.cut.proofs.PlainLogs.{no_refusal}
use Rattle.cut.proofs.Layouts.{start_cases, start_within, Behind, Laid, laid_none, laid_next, behind, end_ahead, own, length_own, LaidLog}
use Rattle.cut.proofs.Fields.{checksum_read, length_read, tag_read, payload_read, checksum_padding, length_padding}
use Rattle.cut.proofs.Kept.{one_more, none_more}

-- the walk stops at or past c
at_end : (k : ℕ) (image : List ℕ) (c e p : ℕ) → c ≤ p → (w : Stop) × (move_at k image c e p ≡ stop w)
unfolding move_at move
at_end k image c e p h = (pick (eqb e c) END ZEROS, ap (move k c e p) (look_past k image c p h))

-- The walk from e comes to the start of the entry behind e, unless c cuts the first header of the padding between.
data Arrival (k : ℕ) (image : List ℕ) (c e : ℕ) (a : Entry) : Type 0 where
  comes : walk_at k image c e e ≡ walk_at k image c a.start e → Arrival k image c e a
  torn_before : c < end_of a → move_at k image c e e ≡ stop TORN → Arrival k image c e a

-- ---- One entry, which stands behind e in the log's bytes

module _ (k : ℕ) (most : k ≤ 28) (image bytes : List ℕ) (c : ℕ) (same : take c image ≡ take c bytes)
    (e : ℕ) (a : Entry) (rest : List ℕ) (put : Behind k e a) (at : drop e bytes ≡ own e a ++ rest) where
  within : a.start + (length a.payload + 16) ≤ next_region k a.start
  within = rw put.at (start_within k e (length a.payload) put.small)

  short : length a.payload + 16 < 2 ^ 32
  short = omega (arith, put.small, size_most k most)

  padding : drop e bytes ≡ zeros (a.start - e) ++ (entry_bytes a.tag a.payload ++ rest)
  padding = at ∙ append_assoc (zeros (a.start - e)) (entry_bytes a.tag a.payload) rest

  entry : drop a.start bytes ≡ entry_bytes a.tag a.payload ++ rest
  entry =
      drop_past bytes e a.start (zeros (a.start - e)) (entry_bytes a.tag a.payload ++ rest) padding
      (simp length_zeros (omega (arith, behind put)))

  its_length : a.start + 16 ≤ c → length_at image a.start ≡ length a.payload + 16
  its_length h = length_read image bytes c same a.start a.tag a.payload rest entry h short

  its_tag : a.start + 16 ≤ c → tag_at image a.start ≡ a.tag
  its_tag h = tag_read image bytes c same a.start a.tag a.payload rest entry h put.tag

  its_checksum : a.start + 16 ≤ c → checksum_at image a.start ≡ crc32 a.payload
  its_checksum h = checksum_read image bytes c same a.start a.tag a.payload rest entry h

  its_payload : a.start + (length a.payload + 16) ≤ c → payload_at image a.start ≡ a.payload
  its_payload h = payload_read image bytes c same a.start a.tag a.payload rest entry h short

  -- it stands there where it ends by c
  looks : end_of a ≤ c → look_at k image c a.start ≡ whole a
  unfolding end_of
  looks h =
      let header : a.start + 16 ≤ c = omega arith in
      let n : length_at image a.start ≡ length a.payload + 16 = its_length header in
      let sum : checksum_at image a.start ≡ crc32 (payload_at image a.start) = rw (its_payload h) (its_checksum header) in
      rw (look_whole k image c a.start (omega arith) (omega (arith, within)) (omega arith) sum, its_payload h, its_tag header)

  -- so that it is listed
  lists : end_of a ≤ c → move_at k image c e a.start ≡ list a
  unfolding move_at move
  lists h = ap (move k c e a.start) (looks h)

  -- and torn where c lies within it
  torn : a.start < c → c < end_of a → move_at k image c e a.start ≡ stop TORN
  unfolding end_of move_at move
  torn h l =
      elim (leb_cases (a.start + 16) c) [
        | inl long ↦
            let n : length_at image a.start ≡ length a.payload + 16 = its_length long.1 in
            rw (look_cut k image c a.start (omega arith) (omega (arith, within)) long.1 (omega arith))
        | inr cuts ↦ rw (look_no_header k image c a.start h (omega (arith, within)) cuts.1)
      ]

  -- padding begins inside a region: at a region's start the entry would have fitted
  inside : next_region k e < e + (length a.payload + 16) → e ≡ region_start k e → ⊥
  unfolding next_region
  inside h l = omega (arith, put.small)

  over : a.start ≡ next_region k e → move_at k image c e e ≡ go (next_region k e) → Arrival k image c e a
  over beyond h = comes (walk_go k image c e e h ∙ ap (λ (p : ℕ). walk_at k image c p e) (sym beyond))

  -- a header's worth of padding is skipped by rule 4
  over_zeros : a.start ≡ next_region k e → next_region k e < e + (length a.payload + 16) → e + 16 ≤ next_region k e → e + 16 ≤ c
      → move_at k image c e e ≡ go (next_region k e)
  unfolding move_at move pick
  over_zeros beyond passes room long =
      let after : List ℕ = entry_bytes a.tag a.payload ++ rest in
      let n : length_at image e ≡ 0 = length_padding image bytes c same e (a.start - e) after padding (omega arith) long in
      let sum : checksum_at image e ≡ 0 = checksum_padding image bytes c same e (a.start - e) after padding (omega arith) long in
      rw (look_blank k image c e room long n sum, ne_eqb e (region_start k e) (inside passes))

  -- less by rule 2; and rule 3 stops where c cuts the header
  skips : e < c → a.start ≡ next_region k e → next_region k e < e + (length a.payload + 16) → Arrival k image c e a
  unfolding end_of move_at move
  skips h beyond passes =
      elim (leb_cases (e + 16) (next_region k e)) [
        | inl room ↦
            elim (leb_cases (e + 16) c) [
              | inl long ↦ over beyond (over_zeros beyond passes room.1 long.1)
              | inr cuts ↦ torn_before (omega arith) (ap (move k c e e) (look_no_header k image c e h room.1 cuts.1))
            ]
        | inr full ↦ over beyond (ap (move k c e e) (look_region_full k image c e h full.1))
      ]

  arrives : e < c → Arrival k image c e a
  arrives h =
      elim (start_cases k e (length a.payload)) [
        | inl here ↦ comes (ap (λ (p : ℕ). walk_at k image c p e) (sym (put.at ∙ here.0)))
        | inr beyond ↦ skips h (put.at ∙ beyond.0) beyond.1
      ]

  pub walk_lists : end_of a ≤ c → walk_at k image c e e ≡ listing a (walk_at k image c (end_of a) (end_of a))
  walk_lists h =
      elim (arrives (omega (arith, end_ahead put))) [
        | comes there ↦ there ∙ walk_list k image c e a.start (lists h)
        | torn_before l stops ↦ absurd (omega arith)
      ]

  stops_there : c < end_of a → (w : Stop) × (move_at k image c e a.start ≡ stop w)
  stops_there h =
      elim (leb_cases c a.start) [ inl l ↦ at_end k image c e a.start l.1 | inr l ↦ (TORN, torn l.1 h) ]

  walk_stops : c < end_of a → (w : Stop) × (walk_at k image c e e ≡ record { entries = []; ending = stopped w e })
  walk_stops h =
      elim (leb_cases c e) [
        | inl l ↦ let end = at_end k image c e e l.1 in (end.0, walk_stop k image c e e end.1)
        | inr l ↦
            elim (arrives l.1) [
              | comes there ↦ let end = stops_there h in (end.0, there ∙ walk_stop k image c e a.start end.1)
              | torn_before l stops ↦ (TORN, walk_stop k image c e e stops)
            ]
      ]

-- ---- The entries that are left from e on

module _ (k : ℕ) (most : k ≤ 28) (image bytes : List ℕ) (c : ℕ) (same : take c image ≡ take c bytes) where
  reads : {e : ℕ} {es : List Entry} → Laid k e es → drop e bytes ≡ bytes_from e es → e ≤ c → c ≤ last_end e es
      → (w : Stop)
      × (walk_at k image c e e ≡ record { entries = take (ending_by c es) es; ending = stopped w (last_end e (take (ending_by c es) es)) })
  unfolding bytes_from last_end ending_by listing
  reads (laid_none {e = e}) at h l = let end = at_end k image c e e l in (end.0, walk_stop k image c e e end.1)
  reads (laid_next {e = e} {a = a} {rest = rest} put laid) at h l =
      let after : List ℕ = bytes_from (end_of a) rest in
      let more : drop (end_of a) bytes ≡ after = drop_past bytes e (end_of a) (own e a) after at (sym (length_own e a (behind put))) in
      elim (leb_cases (end_of a) c) [
        | inl by ↦
            let then = reads laid more by.1 l in
            let step : walk_at k image c e e ≡ listing a (walk_at k image c (end_of a) (end_of a)) =
            walk_lists k most image bytes c same e a after put at by.1 in
            (then.0, rw (one_more c a rest by.1) (step ∙ ap (listing a) then.1))
        | inr ends ↦
            let end = walk_stops k most image bytes c same e a after put at ends.1 in
            (end.0, rw (none_more c a laid ends.1) end.1)
      ]

-- ---- The whole log

pub reads_back : (k : ℕ) → 6 ≤ k → k ≤ 28 → (log : Log) → LaidLog k log → log.end ≤ 2 ^ 40
    → (c : ℕ) (found : List ℕ) → c ≤ log.end → Holds log c found → ReadsBack k log c found
unfolding walk unless kept resume_at log_bytes
reads_back k least most log laid below c found by holds =
    let r = reads k most found (log_bytes log) c holds.same laid.laid refl (omega arith) (omega (arith, laid.ends)) in
    let passes : log_check k c (length found) ≡ 0 = no_refusal k least most c (length found) (omega (arith, holds.room)) in
    let whole : walk k found c ≡ record { entries = kept log c; ending = stopped r.0 (resume_at log c) } = rw passes r.1 in
    record {
      word = r.0;
      by_steps = walk_by_steps k found c;
      reads = whole;
      calls = ap (λ (w : Walk). walked_of c w.ending) whole;
      stands = subst (λ (w : Walk). AllStand k found c w.entries) r.1 (walk_stands k found c (passed_sound k c (length found) passes));
    }
