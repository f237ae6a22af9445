-- For the proofs alone; no promise is stated with it. What the loop over index rows comes to: it reads the blocks of the rows that it
-- chooses, and counts them.
use Rattle.std.specs.Prelude.{◌≡◌, List, ℕ, ◌*◌, ◌/◌, ◌≤◌, ltb, length, Result, Ok, Err}
use Rattle.laws.specs.Pick.{pick}
use Rattle.laws.specs.Bytes.{written}
use Rattle.tables.specs.Tables.{table_of}
use Rattle.refusal.specs.declared.Refusal.{Refusal}
use Rattle.refusal.specs.Refusals.{refusal_of}
use Rattle.store.specs.declared.BlockStore.{BlockStore}
use Rattle.query.specs.declared.Looked.{Looked}
use Rattle.query.specs.declared.Collected.{Collected}
use Rattle.query.specs.Query.{Blocks, failed, all, unloaded, counted}

unfoldable pub collected_of : List (List ℕ) → Blocks → Result Collected Refusal
collected_of rows (failed n) = Err (refusal_of n)
collected_of rows (all found) = Ok (record { rows = length found; unloaded = unloaded rows })

-- the words of the answer table, where the rows fit
abbrev pub HoldsRows : Blocks → List ℕ → Type 0
HoldsRows (failed n) out = Unit {0}
HoldsRows (all found) out = length found ≤ length out / 8 → out ≡ table_of (length out) found

-- a row of the answer, where there is room for it
unfoldable pub answer_put : List ℕ → ℕ → List ℕ → List ℕ
answer_put out i row = pick (ltb i (length out / 8)) (written out (8 * i) row) out

-- the answer of what was collected
unfoldable pub finished : BlockStore → Result Collected Refusal → ℕ → Result Looked Refusal
finished store (Err e) lent = Err e
finished store (Ok c) lent = pick (ltb lent c.rows) (Err (refusal_of 15)) (Ok (record { rows = c.rows; store = counted store c.unloaded }))
