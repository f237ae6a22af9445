-- Nothing that was acknowledged is lost. A node keeps its log in a file. It syncs the log up to a length L, the known length, and
-- acknowledges what lies before L. After a crash the file holds the first L bytes, and behind them whatever came to the disk. When the log
-- is opened and recovery refuses that rest, it is cut at the start that the refusal names, and recovered again; in the end the file itself
-- is cut at E, before anything is appended there. `Durability` is what is proved: these cuts lie at or past L, and the entries that are
-- recovered begin with those recovered at L. (An own block or a state behind L may still drop rows of theirs, as the rules have it; and
-- behind L an entry that was lost may be passed over.) No refusal is named by its number, except 15, at which no cut is made.
use Rattle.std.specs.Prelude.{◌≡◌, Bool, true, false, List, [], ◌∷◌, ◌++◌, ℕ, zero, suc, ◌≤◌, ◌<◌, ◌^◌, min, eqb, length, take, Ok, Err}
use Rattle.wal_reader.specs.Entries.{Entry, end_of}
use Rattle.wal.specs.Walk.{Stop, END, Ending, stopped, walk}
use Rattle.wal.specs.Answers.{walked_of, walk_answer}
use Rattle.wal.specs.declared.RefusedAt.{RefusedAt}
use Rattle.wal.specs.declared.Walked.{Walked}
use Rattle.replay.specs.Items.{ReplayEntry}
use Rattle.replay.specs.Recovery.{Lent, Recovery, refused, recovered, recover}
use Rattle.recovered.specs.declared.Recovered.{Recovered}
use Rattle.replay_log.specs.Answers.{Tables, rows_lent, Answers, RecoverAnswers}
use Rattle.cut.specs.Cut.{ruled}

-- ---- After a crash

-- "any image that holds its first L bytes, with any used from L up to the image's length and 2^40, whatever bytes behind": t is the image,
-- and s the one from which L was made durable
pub record HoldsFirst (L : ℕ) (s t : List ℕ) (used : ℕ) : Type 0 where
  pub same : take L t ≡ take L s
  pub from : L ≤ used
  pub within : used ≤ min (length t) (2 ^ 40)

-- each entry ends at or before p
abbrev pub AllEndBy : ℕ → List Entry → Type 0
AllEndBy p [] = Unit {0}
AllEndBy p (a ∷ rest) = (end_of a ≤ p) × AllEndBy p rest

-- each entry starts at or past p
abbrev pub AllStartFrom : ℕ → List Entry → Type 0
AllStartFrom p [] = Unit {0}
AllStartFrom p (a ∷ rest) = (p ≤ a.start) × AllStartFrom p rest

-- m begins with l
pub record BeginsWith {A : Type 0} (l m : List A) : Type 0 where
  pub rest : List A
  pub is : m ≡ l ++ rest

-- "the walk lists first the entries up to L", and behind them none that starts before L
pub record Lists (k L : ℕ) (s t : List ℕ) (used : ℕ) : Type 0 where
  pub rest : List Entry
  pub lists : (walk k t used).entries ≡ (walk k s L).entries ++ rest
  pub behind : AllStartFrom L rest

-- What holds of a recovery of t that is not refused, with E and the entries m.
pub record Served (k L size own : ℕ) (lent : Lent) (l : List ReplayEntry) (t : List ℕ) (e : ℕ) (m : List ReplayEntry) : Type 0 where
  -- it resumes at or past L
  pub from : L ≤ e
  -- the entries recovered at L come first
  pub begins : BeginsWith l m
  -- E is such a length as L is, for the next crash: recovery with used E stops at E and gives the same
  pub again : recover k t e size own lent ≡ recovered END e m

-- ---- A cut

-- What holds of a refusal's start p, and what the cut there leaves.
pub record CutAt (k L : ℕ) (s t : List ℕ) (used p : ℕ) : Type 0 where
  -- "has a start at or past L"
  pub from : L ≤ p
  -- and before used, so that each cut makes the log shorter
  pub ahead : p < used
  -- The walk with used p is not refused. It lists the first of the entries that it listed: those that end at or before p. The others start
  -- at or past p.
  pub before : List Entry
  pub after : List Entry
  pub word : Stop
  pub end : ℕ
  pub walks : walk k t p ≡ record { entries = before; ending = stopped word end }
  pub first : (walk k t used).entries ≡ before ++ after
  pub ends_by : AllEndBy p before
  pub starts_from : AllStartFrom p after
  -- it resumes at or past L
  pub resumes_from : L ≤ end
  pub resumes_by : end ≤ p
  -- "with used set to that start recovery gives what the rules give for the entries before it", for every committee and tables of any size
  pub recovers : (size own : ℕ) (lent : Lent) → recover k t p size own lent ≡ ruled size own lent before word end
  -- what `wal::walk` answers, and what the contract of `recovery::recover` says of a call's answer and tables
  pub walk_call : walk_answer k t p ≡ walked_of p (stopped word end)
  pub recover_call : (size own : ℕ) (lent : Tables) (r : Recovered) (left : Tables) → RecoverAnswers k t p size own lent r left
      → Answers p own (ruled size own (rows_lent lent) before word end) lent r left
  -- p may be the next used: the image holds the first L bytes
  pub again : HoldsFirst L s t p

-- ---- What the file layer does

-- "15 (which asks for larger tables and is never a reason to cut)"
unfoldable pub asks_for_rows : ℕ → Bool
asks_for_rows n = eqb n 15

-- the used at which the cuts end, and what recovery gives there
pub record AfterCuts : Type 0 where
  pub used : ℕ
  pub answer : Recovery

-- One time around the loop, by what recovery gave with this used. It ends where recovery is not refused, and at 15; at any other refusal
-- it goes on with the log cut at the start that the refusal names. 1, 2 and 18 are about the call, and do not arise where recovery at L
-- was not refused.
unfoldable pub one_cut : ℕ → (ℕ → AfterCuts) → Recovery → AfterCuts
one_cut used go_on (recovered w e l) = record { used = used; answer = recovered w e l }
one_cut used go_on (refused n p) = elim (asks_for_rows n) [ true ↦ record { used = used; answer = refused n p } | false ↦ go_on p ]

module _ (k : ℕ) (t : List ℕ) (size own : ℕ) (lent : Lent) where
  -- at most n cuts
  unfoldable pub cut_from : ℕ → ℕ → AfterCuts
  cut_from zero used = record { used = used; answer = recover k t used size own lent }
  cut_from (suc n) used = one_cut used (cut_from n) (recover k t used size own lent)

  -- A cut leaves fewer bytes, so that used bounds their number. `Durable.loop` is the equation without the bound.
  unfoldable pub cut_down : ℕ → AfterCuts
  cut_down used = cut_from used used

-- the entries recovered at L come first; or 15 is given, for an entry from L on
abbrev pub NothingLost : ℕ → List ReplayEntry → Recovery → Type 0
NothingLost L l (recovered w e m) = (L ≤ e) × BeginsWith l m
NothingLost L l (refused n p) = (n ≡ 15) × (L ≤ p)

-- "So the cut that the file layer makes loses nothing that was acknowledged, whichever pages a crash lost."
pub record CutsDown (k L size own : ℕ) (lent : Lent) (l : List ReplayEntry) (t : List ℕ) (used : ℕ) (to : AfterCuts) : Type 0 where
  -- it never comes below L
  pub from : L ≤ to.used
  pub by : to.used ≤ used
  pub answers : recover k t to.used size own lent ≡ to.answer
  pub nothing_lost : NothingLost L l to.answer
  -- what it keeps are the first entries of the walk
  pub cut : List Entry
  pub first : (walk k t used).entries ≡ (walk k t to.used).entries ++ cut
  pub ends_by : AllEndBy to.used (walk k t to.used).entries
  pub starts_from : AllStartFrom to.used cut

-- ---- The calls

-- the answer and the tables of a call of `recovery::recover` that is not refused, with E
pub record CallServed (k L size own : ℕ) (lent : Lent) (l : List ReplayEntry) (t : List ℕ) (used e : ℕ)
    (before : Tables) (r : Recovered) (after : Tables) : Type 0 where
  pub word : Stop
  pub entries : List ReplayEntry
  pub served : Served k L size own lent l t e entries
  pub answers : Answers used own (recovered word e entries) before r after

-- the same of the answers of `wal::walk`, and of `recovery::recover` with tables of the size that recovery had at L
pub record Called (k L : ℕ) (s : List ℕ) (size own : ℕ) (lent : Lent) (l : List ReplayEntry) (t : List ℕ) (used : ℕ) : Type 0 where
  pub walk_stopped : (w : Walked) → walk_answer k t used ≡ Ok w → L ≤ w.end.0
  pub walk_refused : (f : RefusedAt) → walk_answer k t used ≡ Err f → CutAt k L s t used f.start.0
  pub recover_stopped : (before : Tables) (r : Recovered) (after : Tables) → rows_lent before ≡ lent
      → RecoverAnswers k t used size own before r after → (w : Walked) → r.walked ≡ Ok w
      → CallServed k L size own lent l t used w.end.0 before r after
  pub recover_refused : (before : Tables) (r : Recovered) (after : Tables) → rows_lent before ≡ lent
      → RecoverAnswers k t used size own before r after → (f : RefusedAt) → r.walked ≡ Err f → CutAt k L s t used f.start.0

-- ---- The theorem

pub record Durable (k L : ℕ) (s : List ℕ) (size own : ℕ) (lent : Lent) (l : List ReplayEntry) (t : List ℕ) (used : ℕ) : Type 0 where
  -- "the walk lists first the entries up to L"
  pub lists : Lists k L s t used
  -- A walk that stops resumes at or past L. The file layer refuses a log that resumes before L, as damaged: this never happens where the
  -- first L bytes are there.
  pub walk_stops : (w : Stop) (e : ℕ) → (walk k t used).ending ≡ stopped w e → L ≤ e
  -- "a refusal of the walk .. has a start at or past L"
  pub walk_refused : (n p : ℕ) → (walk k t used).ending ≡ Ending.refused n p → CutAt k L s t used p
  -- a recovery that is not refused gives what was recovered at L, and what stands behind it
  pub recovers : (w : Stop) (e : ℕ) (m : List ReplayEntry) → recover k t used size own lent ≡ recovered w e m
      → Served k L size own lent l t e m
  -- "or of recovery .. has a start at or past L". With the tables of L this holds of 15 too; the file layer makes no cut then. A payload
  -- before L that is pending, so that 11 could refuse it, was pending at L, and decodes.
  pub recovery_refused : (n p : ℕ) → recover k t used size own lent ≡ refused n p → CutAt k L s t used p
  -- the same, as the calls answer
  pub calls : Called k L s size own lent l t used
  -- the cuts, one after the other, and where they end
  pub loop : cut_down k t size own lent used ≡ one_cut used (cut_down k t size own lent) (recover k t used size own lent)
  pub cuts_down : CutsDown k L size own lent l t used (cut_down k t size own lent used)

-- "Let a log be given with a length L at which recovery is not refused (L an entry's end or 0)": recovery of s with used L stops, and E is
-- L. It has passed 1, 2 and 18 then, so that k is 6 to 28, L is within s and 2^40, and the committee passes. Committee, own authority and
-- tables are "the committee, own authority and tables with which recovery at L was not refused".
abbrev pub NotRefusedAt : ℕ → ℕ → List ℕ → ℕ → ℕ → Lent → Stop → List ReplayEntry → Type 0
NotRefusedAt k L s size own lent word l = recover k s L size own lent ≡ recovered word L l

abbrev pub Durability : Type 0
Durability =
    (k L : ℕ) (s : List ℕ) (size own : ℕ) (lent : Lent) (word : Stop) (l : List ReplayEntry) → NotRefusedAt k L s size own lent word l
    → (t : List ℕ) (used : ℕ) → HoldsFirst L s t used → Durable k L s size own lent l t used

-- ---- Other tables

-- at least as many rows in each table
pub record AtLeast (lent more : Lent) : Type 0 where
  pub pending : lent.pending ≤ more.pending
  pub unprocessed : lent.unprocessed ≤ more.unprocessed
  pub committed : lent.committed ≤ more.committed
  pub index : lent.index ≤ more.index

-- A recovery that is not refused with 15 gives the same with larger tables.
abbrev pub LargerTables : Type 0
LargerTables =
    (k : ℕ) (s : List ℕ) (used size own : ℕ) (lent more : Lent) → AtLeast lent more
    → ((p : ℕ) → recover k s used size own lent ≡ refused 15 p → ⊥) → recover k s used size own more ≡ recover k s used size own lent

-- A recovery of t with whatever tables: the file layer sizes them by the log that it finds, and not by the one of L. With too few rows 15
-- may come before L.
pub record WithTables (k L : ℕ) (s : List ℕ) (size own : ℕ) (l : List ReplayEntry) (t : List ℕ) (used : ℕ) (lent : Lent) : Type 0 where
  pub recovers : (w : Stop) (e : ℕ) (m : List ReplayEntry) → recover k t used size own lent ≡ recovered w e m
      → Served k L size own lent l t e m
  -- "a refusal .. of recovery other than 15 .. has a start at or past L"
  pub recovery_refused : (n p : ℕ) → recover k t used size own lent ≡ refused n p → (n ≡ 15 → ⊥) → CutAt k L s t used p

abbrev pub OtherTables : Type 0
OtherTables =
    (k L : ℕ) (s : List ℕ) (size own : ℕ) (lent : Lent) (word : Stop) (l : List ReplayEntry) → NotRefusedAt k L s size own lent word l
    → (t : List ℕ) (used : ℕ) → HoldsFirst L s t used → (other : Lent) → WithTables k L s size own l t used other
