-- Request 11, "Four damaged bytes never pass": "if an entry reads well and only its payload is then changed, within four consecutive
-- bytes, in at least one bit, reading it gives 7, for every payload length and every exponent". `Request11`, at the end, is what is
-- proved; `Limits` says what is not promised.
use Rattle.std.specs.Prelude.{◌≡◌, List, [], ◌∷◌, ◌++◌, ℕ, ◌+◌, ◌≤◌, ◌<◌, length, get_or, Ok, Err}
use Rattle.laws.specs.Bytes.{AllBytes}
use Rattle.refusal.specs.Refusals.{refusal_of}
use Rattle.wal_position.specs.Checks.{unless}
use Rattle.wal_reader.specs.Entries.{Entry}
use Rattle.wal_reader.specs.Answers.{read_answer}
use Rattle.wal_reader.specs.declared.WalEntry.{WalEntry}
use Rattle.wal.specs.Walk.{Stop, Ending, walk}
use Rattle.wal.specs.Answers.{refused_at, walk_answer}
use Rattle.committee.specs.Committee.{committee_check}
use Rattle.replay.specs.Items.{ReplayEntry}
use Rattle.replay.specs.Recovery.{Lent, scan, scanned, replayed, recover, refused, recovered}

-- the byte at i, which is 0 past the end, is not the same in s and t
abbrev pub DiffersAt : List ℕ → List ℕ → ℕ → Type 0
DiffersAt s t i = get_or s i 0 ≡ get_or t i 0 → ⊥

-- A burst error: t is the image s after a change that lies in a payload, the n bytes from index `at` on, and within `width` consecutive
-- bytes. That run may begin before the payload or end behind it, so that a payload shorter than `width` may change as a whole.
pub record Burst (width at n : ℕ) (s t : List ℕ) : Type 0 where
  pub same_length : length s ≡ length t
  -- "only its payload is then changed"
  pub in_payload : (i : ℕ) → DiffersAt s t i → (at ≤ i) × (i < at + n)
  -- "within four consecutive bytes": here `width` of them, from index `first` on
  pub first : ℕ
  pub in_run : (i : ℕ) → DiffersAt s t i → (first ≤ i) × (i < first + width)
  -- "in at least one bit": the images are not the same; both hold bytes, and two different bytes differ in a bit
  pub changed : s ≡ t → ⊥

-- ---- Read

-- "if an entry reads well": `wal::read` answers it, at p. Its payload is the `len` bytes behind the 16 of the header. All checks of a
-- read have passed then, so that k, used and p need no hypotheses of their own.
abbrev pub ReadDetects : ℕ → Type 0
ReadDetects width =
    (k : ℕ) (s : List ℕ) → AllBytes s → (used p : ℕ) (e : WalEntry) → read_answer k s used p ≡ Ok e
    → (t : List ℕ) → AllBytes t → Burst width (p + 16) e.len s t → read_answer k t used p ≡ Err (refusal_of 7)

-- ---- Walk and recovery

-- What the walk and recovery of the image t give: 7 at the start of a, behind the entries `before`.
pub record Detected (k : ℕ) (t : List ℕ) (used : ℕ) (before : List Entry) (a : Entry) : Type 0 where
  -- the walk lists `before`, and is then refused
  pub walks : walk k t used ≡ record { entries = before; ending = Ending.refused 7 a.start }
  -- what `wal::walk` answers
  pub answers : walk_answer k t used ≡ Err (refused_at 7 a.start)
  -- Recovery gives what its checks give for the entries `before`, "in log order", and the walk's 7 behind them. `recovery::recover`
  -- answers by `recover`, and a refused one leaves its tables all zero.
  pub recovers : (size own : ℕ) (lent : Lent) → recover k t used size own lent
      ≡ unless (committee_check size own) (λ n. refused n 0)
      (replayed size own lent (record { entries = before; ending = Ending.refused 7 a.start }))
  -- so 7 at a's start, where 18 does not refuse, nor an entry before
  pub seven : (size own : ℕ) (lent : Lent) (l : List ReplayEntry) → committee_check size own ≡ 0 → scan size own lent [] before ≡ scanned l
      → recover k t used size own lent ≡ refused 7 a.start
  -- and no recovery accepts t, whatever the committee and the tables
  pub never : (size own : ℕ) (lent : Lent) (word : Stop) (end : ℕ) (l : List ReplayEntry)
      → recover k t used size own lent ≡ recovered word end l → ⊥

-- For every image whose walk lists the entry a, however that walk ends, and every burst in a's payload.
abbrev pub WalkDetects : ℕ → Type 0
WalkDetects width =
    (k : ℕ) (s : List ℕ) → AllBytes s → (used : ℕ) (before : List Entry) (a : Entry) (after : List Entry)
    → (walk k s used).entries ≡ before ++ a ∷ after
    → (t : List ℕ) → AllBytes t → Burst width (a.start + 16) (length a.payload) s t → Detected k t used before a

-- ---- Request 11

abbrev pub Request11 : Type 0
Request11 = ReadDetects 4 × WalkDetects 4
