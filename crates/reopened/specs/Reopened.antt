-- A store and its log say the same: whatever log a node starts from, and whatever calls of the store come then, the index that recovery of
-- the log gives, where it is not refused, is the store's, loaded flags and loads aside. Document 01: "Insert (a block's bytes .. logged and
-- indexed)"; "Index: reference to latest position, all unloaded".
use Rattle.std.specs.Prelude.{◌≡◌, ◌⊎◌, ℕ, ◌^◌, ◌≤◌, ◌<◌, length, take, set, Ok}
use mathlib.Core.List.{List, [], ◌∷◌, ◌++◌, map, Memᴰ}
use Rattle.laws.specs.Bytes.{AllBytes}
use Rattle.laws.specs.Parse.{bad}
use Rattle.types.specs.Records.{payload}
use Rattle.replay.specs.Items.{is_payload, refuse, item, classify, ReplayEntry}
use Rattle.replay.specs.Rules.{pending}
use Rattle.replay.specs.Recovery.{Lent, rows_check, recover, refused, recovered}
use Rattle.committee.specs.Committee.{committee_check}
use Rattle.wal_reader.specs.Entries.{Entry}
use Rattle.wal.specs.Walk.{Stop, walk}
use Rattle.state.specs.Tables.{empty_replay, summary_of}
use Rattle.recovered.specs.declared.Recovered.{Recovered}
use Rattle.replay_log.specs.Answers.{Tables, rows_lent, Answers, index_rows}
use Rattle.store.specs.declared.BlockStore.{BlockStore}
use Rattle.store.specs.Store.{indexed, opened_of}
use Rattle.cleanup.specs.Cleanup.{cleanup_index}
use Rattle.query.specs.Query.{counted}
use Rattle.indexing.specs.declared.Inserted.{Inserted}
use Rattle.insert.specs.Insert.{Inserts}
use Rattle.cut.specs.PlainLog.{Append}
use Rattle.cut.specs.Cut.{LogImage, after_append}

-- The logs that a node can come to, each with its store and the table of its index; k, size and own are the same throughout. A refused
-- append, insert, cleanup or lookup changes neither log, store nor index, and a refused recovery opens no store.
pub data Reachable (k size own : ℕ) : LogImage → BlockStore → List ℕ → Type 0 where
  -- an empty log in an image of whatever bytes, and no block yet, in index rows of whatever words
  new : (image index : List ℕ) → Reachable k size own (record { used = 0; image = image }) (opened_of size own empty_replay) index
  -- The node starts from a log of whatever bytes: as it was left, cut by a power failure, with zeros behind it, or written by another
  -- program. It has what recovery gives of `used` bytes, and goes on from E. The tables are those lent to recovery, before and after it.
  opens : (image : List ℕ) → AllBytes image
      → (used : ℕ) (before after : Tables) (r : Recovered) (word : Stop) (e : ℕ) (l : List ReplayEntry)
      → recover k image used size own (rows_lent before) ≡ recovered word e l → Answers used own (recovered word e l) before r after
      → Reachable k size own (record { used = e; image = image }) (opened_of size own r.replay) after.index
  -- An append, accepted or not, of something else than a block: "every 32-bit tag" but the two that insert logs, since a block that is only
  -- appended is in no index before the next start.
  appends : {log : LogImage} {s : BlockStore} {index : List ℕ} → Reachable k size own log s index
      → (a : Append) → a.tag < 2 ^ 32 → (a.tag ≡ 1 → ⊥) → (a.tag ≡ 3 → ⊥) → Reachable k size own (after_append k log a) s index
  -- an accepted insert
  inserts : {log : LogImage} {s : BlockStore} {index : List ℕ} → Reachable k size own log s index
      → (tag : ℕ) (payload : List ℕ) → (tag ≡ 1) ⊎ (tag ≡ 3) → AllBytes payload
      → (i : Inserted) (image' index' : List ℕ)
      → Inserts (record { exponent = k; used = log.used }) s tag payload log.image index (Ok i) image' index'
      → Reachable k size own (record { used = i.writer.used; image = image' }) i.store index'
  -- cleanup changes flags, a lookup counts loads
  cleans : {log : LogImage} {s : BlockStore} {index : List ℕ} → Reachable k size own log s index
      → (t : ℕ) → Reachable k size own log s (cleanup_index k log.image log.used s index t)
  looks : {log : LogImage} {s : BlockStore} {index : List ℕ} → Reachable k size own log s index
      → (n : ℕ) → Reachable k size own log (counted s n) index
  -- the caller lends the log in another image, or the rows in another table, as where it needs more room
  lends : {log : LogImage} {s : BlockStore} {index : List ℕ} → Reachable k size own log s index
      → (image' index' : List ℕ) → log.used ≤ length image' → take log.used image' ≡ take log.used log.image
      → indexed s index' ≡ indexed s index → Reachable k size own (record { used = log.used; image = image' }) s index'

-- a row, its loaded flag aside
unfoldable pub unloaded_row : List ℕ → List ℕ
unloaded_row r = set r 7 0

-- the store is of this committee and own authority, and its references, positions and summary are those of the entries l
pub record AgreesWith (size own : ℕ) (l : List ReplayEntry) (s : BlockStore) (index : List ℕ) : Type 0 where
  pub committee : s.committee_size ≡ size
  pub authority : s.authority ≡ own
  pub rows : map unloaded_row (indexed s index) ≡ index_rows l
  pub summary : s.summary ≡ summary_of own l

-- whatever tables are lent to the recovery that is not refused
abbrev pub Reopened : Type 0
Reopened =
    (k : ℕ) → 6 ≤ k → k ≤ 28 → (size own : ℕ) (log : LogImage) (s : BlockStore) (index : List ℕ) → Reachable k size own log s index
    → (lent : Lent) (word : Stop) (e : ℕ) (l : List ReplayEntry) → recover k log.image log.used size own lent ≡ recovered word e l
    → AgreesWith size own l s index

-- each entry is classified as this item
abbrev pub AllClassified : List ReplayEntry → Type 0
AllClassified [] = Unit {0}
AllClassified (x ∷ l) = (classify x.entry ≡ item x.item) × AllClassified l

abbrev pub entries_in : List ReplayEntry → List Entry
entries_in l = map (λ (x : ReplayEntry). x.entry) l

-- Why such a recovery is refused, with its number and start: for entries that are no blocks, for the tables or for the committee. Never
-- for a block (9, 10, 13, 14) or for damage (5, 6, 7). `entries` are those that the walk lists.
pub data Cause (size own : ℕ) (lent : Lent) (entries : List Entry) : ℕ → ℕ → Type 0 where
  -- 18, with 0
  by_committee : {n : ℕ} → 0 < n → committee_check size own ≡ n → Cause size own lent entries n 0
  -- 8 or 12: an entry with this tag, or a commit that does not decode
  by_entry : {n : ℕ} → (n ≡ 8) ⊎ (n ≡ 12) → (a : Entry) → Memᴰ a entries → classify a ≡ refuse n
      → Cause size own lent entries n a.start
  -- 15: the rows of the entries up to x do not fit
  by_rows : (before : List ReplayEntry) (x : ReplayEntry) (later : List Entry) → entries_in (before ++ (x ∷ [])) ++ later ≡ entries
      → AllClassified (before ++ (x ∷ []))
      → rows_check lent (before ++ (x ∷ [])) ≡ 15 → Cause size own lent entries 15 x.entry.start
  -- 11: a payload that is still pending does not decode
  by_payload : (l : List ReplayEntry) → entries_in l ≡ entries → AllClassified l → (x : ReplayEntry) → Memᴰ x (pending l)
      → x.item ≡ is_payload
      → payload x.entry.payload 0 ≡ bad → Cause size own lent entries 11 x.entry.start

abbrev pub Refusals : Type 0
Refusals =
    (k : ℕ) → 6 ≤ k → k ≤ 28 → (size own : ℕ) (log : LogImage) (s : BlockStore) (index : List ℕ) → Reachable k size own log s index
    → (lent : Lent) (n p : ℕ) → recover k log.image log.used size own lent ≡ refused n p
    → Cause size own lent (walk k log.image log.used).entries n p
