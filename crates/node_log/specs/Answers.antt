-- The words of the answer of each call on a log, and of each decoded record, in the order in which they are put, and its number. What is
-- missing is zeros.
use Rattle.std.specs.Prelude.{◌≡◌, Option, Some, None, List, [], ◌∷◌, ◌++◌, ℕ, suc, replicate, Result, Ok, Err}
use Rattle.refusal.specs.declared.Refusal.{Refusal}
use Rattle.refusal.specs.Refusals.{number, number_of}
use Rattle.wal_reader.specs.declared.WalEntry.{WalEntry}
use Rattle.wal.specs.declared.RefusedAt.{RefusedAt}
use Rattle.wal.specs.declared.WalkStep.{WalkStep}
use Rattle.wal.specs.declared.WalkStep.TheVariants.{Entry as Step-as-Entry, Stopped as Step-as-Stopped}
use Rattle.wal_position.specs.declared.WalPosition.{WalPosition}
use Rattle.wal_writer.specs.declared.WalWriter.{WalWriter}
use Rattle.types.specs.declared.BlockReference.{BlockReference}
use Rattle.blocks.specs.declared.StatementBlock.{StatementBlock}
use Rattle.index.specs.Keys.{key_words}
use Rattle.node_words.specs.Words.{flag, stop_word, number_at}

-- ---- What is put

-- A call answers the number n, which is x, and leaves the words a in its caller's array, which are v.
pub record Gives (x : ℕ) (v : List ℕ) (n : ℕ) (a : List ℕ) : Type 0 where
  pub number : n ≡ x
  pub words : a ≡ v

-- ---- The log

-- of an append: the number, the entry's position, and used after the call: a refusal keeps it
unfoldable pub append_words : ℕ → Result (WalPosition × WalWriter) Refusal → List ℕ
append_words used (Ok (p, w)) = 0 ∷ p.0 ∷ w.used ∷ []
append_words used (Err r) = number r ∷ 0 ∷ used ∷ []

-- position, tag, the payload's length, and the checksum
unfoldable pub entry_words : WalEntry → List ℕ
entry_words e = e.position.0 ∷ e.tag ∷ e.len ∷ e.checksum ∷ []

-- of a read: the number, and the entry
unfoldable pub read_words : Result WalEntry Refusal → List ℕ
read_words (Ok e) = 0 ∷ entry_words e
read_words (Err r) = number r ∷ 0 ∷ 0 ∷ 0 ∷ 0 ∷ []

abbrev pub Reads : Result WalEntry Refusal → ℕ → List ℕ → Type 0
Reads x n a = Gives (number_of x) (read_words x) n a

-- of a walk's step: the number, the kind, and the entry. The kind of an entry is 0, that of a stop one more than its word, that of a
-- refusal 4. A refusal has the start of the entry concerned.
unfoldable pub step_words : Result WalkStep RefusedAt → List ℕ
step_words (Ok (Step-as-Entry e)) = 0 ∷ 0 ∷ entry_words e
step_words (Ok (Step-as-Stopped w)) = 0 ∷ suc (stop_word w) ∷ 0 ∷ 0 ∷ 0 ∷ 0 ∷ []
step_words (Err at) = number at.refusal ∷ 4 ∷ at.start.0 ∷ 0 ∷ 0 ∷ 0 ∷ []

abbrev pub Steps : Result WalkStep RefusedAt → ℕ → List ℕ → Type 0
Steps x n a = Gives (number_at x) (step_words x) n a

-- ---- Records

-- of a block: whether it decodes, its reference, its includes and its statements, each by place and number, the creation time's low and
-- high half, the epoch marker, and the end. 15 words, all zero where it does not decode.
unfoldable pub block_words : Option (StatementBlock × ℕ) → List ℕ
block_words None = replicate 15 0
block_words (Some (b, end)) =
    (1 ∷ key_words b.reference)
    ++ (b.includes.at ∷ b.includes.left ∷ b.statements.at ∷ b.statements.left
    ∷ b.meta_creation_time_ns.low ∷ b.meta_creation_time_ns.high ∷ flag b.epoch_marker ∷ end ∷ [])

abbrev pub DecodesBlock : Option (StatementBlock × ℕ) → ℕ → List ℕ → Type 0
DecodesBlock d n a = Gives 0 (block_words d) n a

-- of a reference: whether it decodes, the reference, and the end. 8 words, all zero where it does not decode.
unfoldable pub reference_words : Option (BlockReference × ℕ) → List ℕ
reference_words None = replicate 8 0
reference_words (Some (r, end)) = (1 ∷ key_words r) ++ (end ∷ [])

abbrev pub DecodesReference : Option (BlockReference × ℕ) → ℕ → List ℕ → Type 0
DecodesReference d n a = Gives 0 (reference_words d) n a
