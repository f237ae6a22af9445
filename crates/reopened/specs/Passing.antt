-- The calls on a store that a node can come to (`Reachable`) pass the checks with which each of them begins: 1, 2 and 18. Document 01,
-- 18: "in a lent store, more index rows counted than lent, rows not strictly ascending by round, authority, digest, or one with an
-- authority not below the size". And what its index names is in the log.
use Rattle.std.specs.Prelude.{◌≡◌, List, [], ◌∷◌, ℕ, ◌≤◌, length, get_or, Ok}
use Rattle.laws.specs.Bytes.{AllBytes}
use Rattle.types.specs.declared.BlockReference.{BlockReference}
use Rattle.rows.specs.Rows.{key}
use Rattle.index.specs.Keys.{key_words}
use Rattle.replay.specs.Items.{ReplayEntry}
use Rattle.committee.specs.Committee.{committee_check}
use Rattle.replay.specs.Recovery.{recover, recovered}
use Rattle.wal.specs.Walk.{Stop}
use Rattle.recovered.specs.declared.Recovered.{Recovered}
use Rattle.recovered.specs.Answers.{resumed_of}
use Rattle.replay_log.specs.Answers.{Tables, rows_lent, Answers}
use Rattle.store.specs.declared.BlockStore.{BlockStore}
use Rattle.store.specs.Store.{indexed, opened_of, opened, call_check}
use Rattle.block_reader.specs.Reading.{got, block_at}
use Rattle.cut.specs.Cut.{LogImage}
use Rattle.reopened.specs.Reopened.{Reachable}

-- The store that a recovery leaves, of a log of whatever bytes: a call passes with the log as it was lent to recovery, and with the log
-- up to E, from where the node goes on.
pub record Passes (k used size own : ℕ) (image index : List ℕ) (r : Recovered) (e : ℕ) : Type 0 where
  pub resumes : e ≤ used
  -- `BlockStore::open` opens it, and `Recovered::writer` gives the writer at E
  pub opens : opened size own r ≡ Ok (opened_of size own r.replay)
  pub writes : resumed_of k r ≡ Ok (record { exponent = k; used = e })
  pub as_lent : call_check k used (length image) (opened_of size own r.replay) index ≡ 0
  pub from_end : call_check k e (length image) (opened_of size own r.replay) index ≡ 0

abbrev pub OpenedPasses : Type 0
OpenedPasses =
    (k : ℕ) (image : List ℕ) → AllBytes image
    → (used size own : ℕ) (before after : Tables) (r : Recovered) (word : Stop) (e : ℕ) (l : List ReplayEntry)
    → recover k image used size own (rows_lent before) ≡ recovered word e l → Answers used own (recovered word e l) before r after
    → Passes k used size own image after.index r e

-- Any store of `Reachable`, for a committee that passes.
abbrev pub Kept : Type 0
Kept =
    (k : ℕ) → 6 ≤ k → k ≤ 28 → (size own : ℕ) → committee_check size own ≡ 0 → (log : LogImage) (s : BlockStore) (index : List ℕ)
    → Reachable k size own log s index → call_check k log.used (length log.image) s index ≡ 0

-- ---- What the index names is there

-- a read of the block of a row gives a block with the row's reference
pub record There (k : ℕ) (log : LogImage) (row : List ℕ) : Type 0 where
  pub reference : BlockReference
  pub at : ℕ
  pub len : ℕ
  pub reads : block_at k log.image log.used (get_or row 6 0) ≡ got reference at len
  pub refers : key_words reference ≡ key row

abbrev pub AllThere : ℕ → LogImage → List (List ℕ) → Type 0
AllThere k log [] = Unit {0}
AllThere k log (row ∷ rows) = There k log row × AllThere k log rows

-- Every row of a store of `Reachable` names a block that is in the log, whole, at the row's position: no lookup is refused for an indexed
-- block that it reads.
abbrev pub FoundThere : Type 0
FoundThere =
    (k : ℕ) → 6 ≤ k → k ≤ 28 → (size own : ℕ) (log : LogImage) (s : BlockStore) (index : List ℕ) → Reachable k size own log s index
    → AllThere k log (indexed s index)
