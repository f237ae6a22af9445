-- A node starts from an empty log, or from one that recovery accepted, at E, with one exponent, committee and own authority throughout.
-- If it logs by its checked calls alone, it never makes a log that recovery refuses, except for tables that are too small (15). The
-- calls that log are the two inserts, and the appends of a payload, a state and a commit; a payload or a commit is appended only where
-- its bytes decode. So whatever length of the log such a node makes durable is one at which recovery is not refused, as `Durability` asks.
use Rattle.std.specs.Prelude.{◌≡◌, ◌⊎◌, List, ℕ, ◌≤◌}
use Rattle.laws.specs.Parse.{bad}
use Rattle.types.specs.Records.{payload}
use Rattle.commits.specs.Records.{commit}
use Rattle.wal.specs.Walk.{END}
use Rattle.committee.specs.Committee.{committee_check}
use Rattle.replay.specs.Items.{ReplayEntry}
use Rattle.replay.specs.Recovery.{Lent, refused, recovered, recover}
use Rattle.store.specs.declared.BlockStore.{BlockStore}
use Rattle.cut.specs.PlainLog.{Append}
use Rattle.cut.specs.Cut.{LogImage}
use Rattle.durable.specs.Durable.{HoldsFirst, Durable, AtLeast}
use Rattle.reopened.specs.Reopened.{Reachable, new, opens, appends, inserts, cleans, looks, lends}

-- ---- The checked calls

-- What the node appends, besides the blocks that insert logs. Document 01, "Tags: 1 block; 2 payload (list of statements); 3 own block
-- (8-byte next entry, block); 4 state (raw); 5 commit (list of leader and sub-dag, then state)."
pub data IsChecked (a : Append) : Type 0 where
  -- a payload that decodes
  statements : a.tag ≡ 2 → (payload a.payload 0 ≡ bad → ⊥) → IsChecked a
  -- a state, of whatever bytes
  state : a.tag ≡ 4 → IsChecked a
  -- a commit that decodes
  commits : a.tag ≡ 5 → (commit a.payload 0 ≡ bad → ⊥) → IsChecked a

-- Of the calls by which a node comes to a log: each append is checked. A log from which the node starts may hold payloads that do not
-- decode, where an own block has dropped them.
abbrev pub AllChecked : {k size own : ℕ} {log : LogImage} {s : BlockStore} {index : List ℕ} → Reachable k size own log s index → Type 0
AllChecked (new image index) = Unit {0}
AllChecked (opens image all used before after r word e l is answers) = Unit {0}
AllChecked (appends m a small one three) = IsChecked a × AllChecked m
AllChecked (inserts m tag bytes which all i image' index' ins) = AllChecked m
AllChecked (cleans m t) = AllChecked m
AllChecked (looks m n) = AllChecked m
AllChecked (lends m image' index' room same rows) = AllChecked m

-- ---- What recovery makes of such a log

pub record Accepts (k size own : ℕ) (log : LogImage) : Type 0 where
  -- the entries that recovery gives, the same for all tables with which it is not refused
  pub entries : List ReplayEntry
  -- Tables of any size: recovery reads the whole log, or asks for more rows. No other number is given.
  pub answers : (lent : Lent) → (recover k log.image log.used size own lent ≡ recovered END log.used entries)
      ⊎ ((p : ℕ) × (recover k log.image log.used size own lent ≡ refused 15 p))
  -- there are tables that are large enough, and with all larger ones it is not refused
  pub enough : Lent
  pub serves : (lent : Lent) → AtLeast enough lent → recover k log.image log.used size own lent ≡ recovered END log.used entries
  -- Nothing is lost of a log that was made durable up to its end: whatever image holds these bytes after a crash, and whatever lies
  -- behind them, all that `Durability` promises holds of it.
  pub durable : (lent : Lent) → AtLeast enough lent → (t : List ℕ) (used : ℕ) → HoldsFirst log.used log.image t used
      → Durable k log.used log.image size own lent entries t used

abbrev pub Accepted : Type 0
Accepted =
    (k : ℕ) → 6 ≤ k → k ≤ 28 → (size own : ℕ) → committee_check size own ≡ 0 → (log : LogImage) (s : BlockStore) (index : List ℕ)
    → (made : Reachable k size own log s index) → AllChecked made → Accepts k size own log
