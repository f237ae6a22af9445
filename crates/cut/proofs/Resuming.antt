-- Entries appended again behind those before them come to their old places, so that the log is restored. Assumes nothing.
use mathlib.Core.Path.{◌≡◌, refl, sym, ap, ap₂, ◌∙◌}
use mathlib.Core.List.{List, [], ◌∷◌, ◌++◌, map, append-nil}
use Prim.Native.Nat.{ℕ, ◌+◌, ◌^◌, ◌≤◌, min}
use native.Mathlib.Omega.{arith}
use lib.ListN.{length, take, take-append-drop}
use lib.Seq.{append_snoc, take-take, take_at}
use Rattle.wal_reader.specs.Entries.{Entry, end_of}
use Rattle.wal_writer.specs.Append.{accepted}
use Rattle.cut.specs.PlainLog.{Log, plain_answer, joined, plain_next, plain_log, bytes_from, log_bytes}
use Rattle.cut.specs.Cut.{LogImage, Compared, after, plain_seen, ending_by, last_end, again, Holds, kept, lost, resume_at, Restores}
use Rattle.cut.proofs.PlainLogs.{plain_accepts}
use Rattle.cut.proofs.Layouts.{Behind, Laid, laid_none, laid_next, last_ahead, last_append, laid_left, laid_right, bytes_append, length_bytes, LaidLog}
use Rattle.cut.proofs.Kept.{kept_by}
use Rattle.cut.proofs.Appending.{Holding, run, same_seen}

-- ---- In the plain log

module _ (k size : ℕ) where
  accepts_again : {e : ℕ} {a : Entry} → Behind k e a → end_of a ≤ min size (2 ^ 40)
      → plain_answer k size e (length a.payload) ≡ accepted a.start
  unfolding end_of
  accepts_again h room = plain_accepts (record { at = h.at; small = h.small; room = room })

  joins_again : {e : ℕ} {a : Entry} (es : List Entry) → Behind k e a → end_of a ≤ min size (2 ^ 40)
      → plain_next k size (record { entries = es; end = e }) (again a) ≡ record { entries = es ++ (a ∷ []); end = end_of a }
  unfolding plain_next again joined end_of
  joins_again {e} {a} es h room =
      let end : a.start + length a.payload + 16 ≡ a.start + (length a.payload + 16) = omega arith in
      rw (accepts_again h room, end)

  pub log_again : {e : ℕ} {rest : List Entry} (es : List Entry) → Laid k e rest → last_end e rest ≤ min size (2 ^ 40)
      → plain_log k size (record { entries = es; end = e }) (map again rest) ≡ record { entries = es ++ rest; end = last_end e rest }
  unfolding plain_log last_end
  log_again es (laid_none {e = e}) room = λ i. record { entries = sym (append-nil es) i; end = e }
  log_again es (laid_next {a = a} {rest = rest} h laid) room =
      ap (λ (log : Log). plain_log k size log (map again rest)) (joins_again es h (omega (arith, last_ahead laid)))
      ∙ log_again (es ++ (a ∷ [])) laid room
      ∙ (λ i. record { entries = append_snoc es a rest i; end = last_end (end_of a) rest })

  pub answers_again : {e : ℕ} {rest : List Entry} (es : List Entry) → Laid k e rest → last_end e rest ≤ min size (2 ^ 40)
      → map (λ (x : Compared). x.answer) (plain_seen k size (record { entries = es; end = e }) (map again rest))
      ≡ map (λ (a : Entry). accepted a.start) rest
  unfolding plain_seen last_end again
  answers_again es laid_none room = refl
  answers_again es (laid_next {e = e} {a = a} {rest = rest} h laid) room =
      let fits : end_of a ≤ min size (2 ^ 40) = omega (arith, last_ahead laid) in
      ap₂ ◌∷◌ (accepts_again h fits)
      (ap (λ (log : Log). map (λ (x : Compared). x.answer) (plain_seen k size log (map again rest))) (joins_again es h fits)
      ∙ answers_again (es ++ (a ∷ [])) laid room)

-- ---- In an image that holds the log's first c bytes

module _ (k : ℕ) (log : Log) (laid : LaidLog k log) (below : log.end ≤ 2 ^ 40) (c : ℕ) (found : List ℕ) (by : c ≤ log.end) (holds : Holds log c found) where
  -- what the entries that end by c leave, and where the rest begins
  abbrev before : Log
  before = record { entries = kept log c; end = resume_at log c }

  split : kept log c ++ lost log c ≡ log.entries
  unfolding kept lost
  split = take-append-drop (ending_by c log.entries) log.entries

  both : Laid k 0 (kept log c ++ lost log c)
  both = rw split laid.laid

  laid_kept : LaidLog k before
  unfolding resume_at
  laid_kept = record { laid = laid_left (kept log c) (lost log c) both; ends = refl }

  by_cut : resume_at log c ≤ c
  unfolding resume_at kept
  by_cut = kept_by c laid.laid (omega arith)

  bytes_kept : take (resume_at log c) found ≡ log_bytes before
  unfolding log_bytes resume_at
  bytes_kept =
      sym (take-take (resume_at log c) c found by_cut)
      ∙ ap (take (resume_at log c)) holds.same
      ∙ take-take (resume_at log c) c (log_bytes log) by_cut
      ∙ ap (λ (es : List Entry). take (resume_at log c) (bytes_from 0 es)) (sym split)
      ∙ ap (take (resume_at log c)) (bytes_append 0 (kept log c) (lost log c))
      ∙ take_at (bytes_from 0 (kept log c)) (bytes_from (resume_at log c) (lost log c)) (resume_at log c)
      (omega (arith, length_bytes laid_kept.laid))

  -- from where it is resumed, the image holds their log
  resumed : Holding (length found) before (record { used = resume_at log c; image = found })
  unfolding resume_at
  resumed = record { room = refl; used = refl; ends = refl; fits = omega (arith, by_cut, holds.room); bytes = bytes_kept }

  -- ---- Where there is room for the whole log

  module _ (least : 6 ≤ k) (most : k ≤ 28) (room : log.end ≤ length found) where
    laid_lost : Laid k (resume_at log c) (lost log c)
    unfolding resume_at
    laid_lost = laid_right (kept log c) (lost log c) both

    ends : last_end (resume_at log c) (lost log c) ≡ log.end
    unfolding resume_at
    ends = sym (last_append 0 (kept log c) (lost log c)) ∙ ap (last_end 0) split ∙ laid.ends

    room_again : last_end (resume_at log c) (lost log c) ≤ min (length found) (2 ^ 40)
    room_again = rw ends (omega arith)

    whole : plain_log k (length found) before (map again (lost log c)) ≡ log
    whole = log_again k (length found) (kept log c) laid_lost room_again ∙ (λ i. record { entries = split i; end = ends i })

    pub restores : Restores k log c found
    restores =
        let st : LogImage = record { used = resume_at log c; image = found } in
        let held : Holding (length found) log (after k st (map again (lost log c))) =
        rw whole at (run k least most (length found) before st (map again (lost log c)) resumed) in
        record {
          accepts =
              ap (map (λ (x : Compared). x.answer)) (same_seen k least most (length found) before st (map again (lost log c)) resumed)
              ∙ answers_again k (length found) (kept log c) laid_lost room_again;
          used = held.used;
          bytes = held.bytes;
        }
