-- How many rows a recovery needs, and how large the numbers of an accepted one are. An entry has at least 16 bytes, and a reference
-- in a commit 56, so that no table needs more than one row for each 16 bytes of the log.
use Rattle.std.specs.Prelude.{◌≡◌, List, [], ◌∷◌, ℕ, ◌*◌, ◌^◌, ◌/◌, ◌≤◌, ◌<◌, length}
use Rattle.std.proofs.Math.Option.{some}
use Rattle.laws.specs.Bytes.{AllBytes}
use Rattle.refusal.specs.Refusals as refusals
use Rattle.refusal.specs.Refusals.{refusal_of}
use Rattle.types.specs.declared.BlockReference.{BlockReference}
use Rattle.wal.specs.Walk.{Stop}
use Rattle.replay.specs.Items.{ReplayEntry, block_in}
use Rattle.replay.specs.Rules as rules
use Rattle.replay.specs.Recovery.{Lent, refused, recovered, recover}

-- each table has a row for each 16 bytes of a log of `used` bytes
pub record Enough (used : ℕ) (lent : Lent) : Type 0 where
  pub pending : used / 16 ≤ lent.pending
  pub unprocessed : used / 16 ≤ lent.unprocessed
  pub committed : used / 16 ≤ lent.committed
  pub index : used / 16 ≤ lent.index

-- the rows of each table
pub record Few (used : ℕ) (l : List ReplayEntry) : Type 0 where
  pub pending : 16 * length (rules.pending l) ≤ used
  pub unprocessed : 16 * length (rules.unprocessed l) ≤ used
  pub committed : 16 * length (rules.committed l) ≤ used
  pub index : 16 * length (rules.index l) ≤ used

-- the numbers of an entry: where it starts, and the authority and the round of its block
pub record Small (size used : ℕ) (x : ReplayEntry) : Type 0 where
  pub start : x.entry.start < used
  pub authority : (r : BlockReference) → block_in x.item ≡ some r → r.authority < size
  pub round : (r : BlockReference) → block_in x.item ≡ some r → r.round < 2 ^ 64

abbrev pub AllSmall : ℕ → ℕ → List ReplayEntry → Type 0
AllSmall size used [] = Unit
AllSmall size used (x ∷ later) = Small size used x × AllSmall size used later

-- for every argument of recovery; `AllBytes s` says where the image's elements have to be bytes
pub record Bounds : Type 0 where
  -- 15, "an answer or index table needs more rows than lent", is never given where each table has a row for each 16 bytes
  pub enough : (k : ℕ) (s : List ℕ) (used size own : ℕ) (lent : Lent) (p : ℕ) → AllBytes s → Enough used lent
      → recover k s used size own lent ≡ refused 15 p → ⊥
  -- 18 is the highest number of a refusal
  pub number : (k : ℕ) (s : List ℕ) (used size own : ℕ) (lent : Lent) (n p : ℕ) → recover k s used size own lent ≡ refused n p → n ≤ 18
  -- and it is the number of the refusal that a call answers
  pub numbered : (k : ℕ) (s : List ℕ) (used size own : ℕ) (lent : Lent) (n p : ℕ) → recover k s used size own lent ≡ refused n p
      → refusals.number (refusal_of n) ≡ n
  -- what an accepted recovery has passed: the checks 2 and 18
  pub used : (k : ℕ) (s : List ℕ) (used size own : ℕ) (lent : Lent) (w : Stop) (e : ℕ) (l : List ReplayEntry)
      → recover k s used size own lent ≡ recovered w e l → used ≤ 2 ^ 40
  pub size : (k : ℕ) (s : List ℕ) (used size own : ℕ) (lent : Lent) (w : Stop) (e : ℕ) (l : List ReplayEntry)
      → recover k s used size own lent ≡ recovered w e l → size ≤ 128
  -- a row for each 16 bytes
  pub pending : (k : ℕ) (s : List ℕ) (used size own : ℕ) (lent : Lent) (w : Stop) (e : ℕ) (l : List ReplayEntry)
      → recover k s used size own lent ≡ recovered w e l → 16 * length (rules.pending l) ≤ used
  pub few : (k : ℕ) (s : List ℕ) (used size own : ℕ) (lent : Lent) (w : Stop) (e : ℕ) (l : List ReplayEntry)
      → AllBytes s → recover k s used size own lent ≡ recovered w e l → Few used l
  pub small : (k : ℕ) (s : List ℕ) (used size own : ℕ) (lent : Lent) (w : Stop) (e : ℕ) (l : List ReplayEntry)
      → AllBytes s → recover k s used size own lent ≡ recovered w e l → AllSmall size used (rules.pending l)
