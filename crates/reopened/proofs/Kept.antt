-- The theorems: the store that a recovery leaves, and any store that calls made, pass the checks of the next call. Assumes nothing.
use mathlib.Core.Path.{◌≡◌, ap, ◌∙◌}
use mathlib.Core.List.{List, []}
use Prim.Native.Nat.{ℕ, ◌<◌}
use Rattle.std.proofs.Common.{Result, Ok}
use Rattle.refusal.specs.Refusals.{as_refused}
use Rattle.wal_position.proofs.Checks.{unless_passed}
use Rattle.wal.specs.declared.Walked.{Walked}
use Rattle.wal.specs.declared.RefusedAt.{RefusedAt}
use Rattle.wal.specs.Walk.{Stop, stopped}
use Rattle.wal.specs.Answers.{walked_of}
use Rattle.replay.specs.Items.{ReplayEntry}
use Rattle.replay.specs.Rules.{Block, index}
use Rattle.replay.specs.Recovery.{recovered}
use Rattle.committee.specs.Committee.{committee_check}
use Rattle.recovered.specs.declared.Recovered.{Recovered}
use Rattle.recovered.specs.Answers.{writer_behind, resumed_of}
use Rattle.replay_log.specs.Answers.{recovered_of}
use Rattle.store.specs.declared.BlockStore.{BlockStore}
use Rattle.store.specs.Store as store
use Rattle.store.specs.Store.{opened_by, opened_of}
use Rattle.cut.specs.Cut.{LogImage}
use Rattle.reopened.specs.Passing.{OpenedPasses, Kept}
use Rattle.reopened.proofs.Classifying.{reads_of}
use Rattle.reopened.proofs.References.{Every, index_every, fine_below}
use Rattle.reopened.proofs.Passing.{agree_passes}
use Rattle.reopened.proofs.Reopened.{Carries, carries, all_digested, open_sound, open_committee, resumes_by, carries_open}

-- the authorities of a store's rows
below : {k size own : ℕ} {log : LogImage} {s : BlockStore} {words : List ℕ} (h : Carries k size own log s words)
    → Every (λ (b : Block). b.reference.authority < size) (index (reads_of h.entries))
below {size = size} {own = own} h = index_every _ h.entries (fine_below size own [] h.entries h.fine)

-- a recovery that is not refused opens a store, and gives the writer at E
module _ (used own e : ℕ) (r : Recovered) (word : Stop) (l : List ReplayEntry)
    (answers : r ≡ recovered_of used own (recovered word e l)) where
  walked : r.walked ≡ walked_of used (stopped word e)
  unfolding recovered_of
  walked = ap (λ (x : Recovered). x.walked) answers

  opens_store : (size : ℕ) → committee_check size own ≡ 0 → store.opened size own r ≡ Ok (opened_of size own r.replay)
  unfolding opened_by walked_of
  opens_store size committee =
      ap (λ (w : Result Walked RefusedAt). opened_by size own w r.replay) walked
      ∙ unless_passed as_refused (Ok (opened_of size own r.replay)) (committee_check size own) committee

  goes_on : (k : ℕ) → resumed_of k r ≡ Ok (record { exponent = k; used = e })
  unfolding walked_of writer_behind
  goes_on k = ap (writer_behind k) walked

pub opened_passes : OpenedPasses
opened_passes k image all used size own before after r word e l is answers =
    let h = carries_open k size own image all used before after r word e l is answers in
    let committee : committee_check size own ≡ 0 = open_committee k size own image all used before after r word e l is answers in
    record {
      resumes = resumes_by k size own image all used before after r word e l is answers;
      opens = opens_store used own e r word l answers.answer size committee;
      writes = goes_on used own e r word l answers.answer k;
      as_lent =
          agree_passes size own committee (reads_of h.entries) (opened_of size own r.replay) after.index h.agrees (all_digested k size own h) (below h)
          (open_sound k size own image all used before after r word e l is answers);
      from_end =
          agree_passes size own committee (reads_of h.entries) (opened_of size own r.replay) after.index h.agrees (all_digested k size own h) (below h)
          h.sound;
    }

pub kept : Kept
kept k least most size own committee log s words made =
    let h : Carries k size own log s words = carries k size own least most made in
    agree_passes size own committee (reads_of h.entries) s words h.agrees (all_digested k size own h) (below h) h.sound
