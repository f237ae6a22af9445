-- The entries that a walk lists, in a log of whatever bytes, stand where they are listed. Assumes nothing.
use mathlib.Core.Path.{◌≡◌, refl, sym, ap, ◌∙◌, subst}
use mathlib.Core.List.{List}
use Prim.Native.Nat.{ℕ, zero, suc, ◌+◌, ◌≤◌, ◌<◌}
use native.Mathlib.Omega.{arith}
use lib.ListN.{length}
use Rattle.checksum.specs.Crc32.{crc32}
use Rattle.wal_position.specs.Checks.{unless}
use Rattle.wal_reader.specs.Entries.{Entry, end_of}
use Rattle.wal_reader.specs.Look.{whole, look_at}
use Rattle.wal_reader.specs.Read.{read_of, read_at}
use Rattle.wal_reader.specs.Answers.{found_of}
use Rattle.wal.specs.Walk as walk
use Rattle.wal.specs.Walk.{Walk, listing, listed, walk_at, step_from}
use Rattle.wal_position.proofs.Checks.{Sound, sound_passes}
use Rattle.wal_reader.proofs.Looks.{look_whole}
use Rattle.wal.proofs.Steps.{Ahead, step_ahead, step_listed, step_named}
use Rattle.wal.proofs.Walks.{Listed, after_step, walk_step_lem}
use Rattle.cut.specs.Cut.{Stands, AllStand}

module _ (k : ℕ) (s : List ℕ) (used : ℕ) (sound : Sound k used (length s)) where
  look_listed : {p : ℕ} {a : Entry} → Listed k s used p a → look_at k s used a.start ≡ whole a
  look_listed {p} {a} l =
      ap (look_at k s used) l.start
      ∙ look_whole k s used p l.length_least l.in_region l.in_used (l.checksum ∙ ap crc32 l.payload)
      ∙ ap whole (λ i. record { start = sym l.start i; tag = sym l.tag i; payload = sym l.payload i })

  stands : (e : ℕ) (a : Entry) → step_from k s used e ≡ listed a → Stands k s used a
  unfolding found_of read_at read_of unless
  stands e a is =
      record {
        reads = rw (sound_passes k used (length s) sound, look_listed (step_listed k s used e a is).2);
        payload = step_named k s used sound.within e a is;
      }

  all_stand : (n e : ℕ) → e ≤ used → used < n + e → AllStand k s used (walk_at k s used e e).entries
  unfolding after_step listing
  all_stand zero e h l = absurd (omega arith)
  all_stand (suc n) e h l =
      subst (λ (w : Walk). AllStand k s used w.entries) (sym (walk_step_lem k s used sound.low e))
      (from (λ a ahead. all_stand n (end_of a) ahead.inside (omega (arith, ahead.ahead))) (step_from k s used e) refl)
    where
      from : ((a : Entry) → Ahead used e a → AllStand k s used (walk_at k s used (end_of a) (end_of a)).entries)
          → (x : walk.Step) → step_from k s used e ≡ x → AllStand k s used (after_step k s used e x).entries
      from later (listed a) is = (stands e a is, later a (step_ahead k s used sound.within e a is))
      from later (walk.Step.stopped w) is = tt
      from later (walk.Step.refused m p) is = tt

  pub walk_stands : AllStand k s used (walk_at k s used 0 0).entries
  walk_stands = all_stand (suc used) 0 (omega arith) (omega arith)
