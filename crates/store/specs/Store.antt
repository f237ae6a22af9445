-- The store that a call is lent: a struct by value, and its index rows in a table. Document 01, the refusal table and "Lookups".
use Rattle.std.specs.Prelude.{Bool, true, false, List, [], ◌∷◌, ℕ, ◌/◌, leb, ltb, eqb, length, get_or, Result, Ok, Err}
use Rattle.laws.specs.Pick.{pick}
use Rattle.refusal.specs.declared.Refusal.{Refusal}
use Rattle.refusal.specs.Refusals.{as_refused}
use Rattle.wal_position.specs.Checks.{log_check, unless}
use Rattle.rows.specs.Rows.{rows_of, ascendingb}
use Rattle.committee.specs.Committee.{committee_check}
use Rattle.wal.specs.declared.Walked.{Walked}
use Rattle.wal.specs.declared.RefusedAt.{RefusedAt}
use Rattle.state.specs.declared.Replay.{Replay}
use Rattle.recovered.specs.declared.Recovered.{Recovered}
use Rattle.store.specs.declared.BlockStore.{BlockStore}

-- the index, as a list of rows
unfoldable pub indexed : BlockStore → List ℕ → List (List ℕ)
indexed s index = rows_of s.rows index

unfoldable pub authorities_below : ℕ → List (List ℕ) → Bool
authorities_below size [] = true
authorities_below size (r ∷ rows) = pick (ltb (get_or r 1 0) size) (authorities_below size rows) false

-- 18: "committee size not 1 to 128; own authority not below it; in a lent store, more index rows counted than lent, rows not strictly
-- ascending by round, authority, digest, or one with an authority not below the size". 0 where none holds.
unfoldable pub store_check : BlockStore → List ℕ → ℕ
store_check s index =
    unless (committee_check s.committee_size s.authority) (λ n. n)
    (pick (leb s.rows (length index / 8))
    (pick (ascendingb (indexed s index)) (pick (authorities_below s.committee_size (indexed s index)) 0 18) 18)
    18)

-- "Queries and cleanup check 1, 2, 18." The image has `size` bytes.
unfoldable pub call_check : ℕ → ℕ → ℕ → BlockStore → List ℕ → ℕ
call_check k used size s index = unless (log_check k used size) (λ n. n) (store_check s index)

-- whether the block of a row is loaded: its last word is not 0
unfoldable pub loaded : List ℕ → Bool
loaded r = pick (eqb (get_or r 7 0) 0) false true

-- ---- The store that recovery leaves

-- "no load counted yet"; that all are unloaded is for the rows to say (`block_row`)
unfoldable pub opened_of : ℕ → ℕ → Replay → BlockStore
opened_of size own r =
    record {
      committee_size = size;
      authority = own;
      rows = r.blocks.index;
      loads = 0;
      summary = r.blocks.summary;
    }

-- What opening answers. "A refusal gives its number": that of the recovery, then 18 for the committee.
unfoldable pub opened_by : ℕ → ℕ → Result Walked RefusedAt → Replay → Result BlockStore Refusal
opened_by size own (Err at) r = Err at.refusal
opened_by size own (Ok w) r = unless (committee_check size own) as_refused (Ok (opened_of size own r))

abbrev pub opened : ℕ → ℕ → Recovered → Result BlockStore Refusal
opened size own r = opened_by size own r.walked r.replay

-- The last seen round of any authority: 0 from 128 on. A field of the store's value, as the other getters give: no log and no row is
-- read, so that 1, 2 and 18 do not arise.
unfoldable pub last_seen_of : BlockStore → ℕ → ℕ
last_seen_of s authority = get_or s.summary.last_seen_by_authority authority 0
