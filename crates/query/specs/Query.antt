-- What a query answers. Document 01, "Lookups" and the order of checks: "A query then checks 19, then for each block it reads, in answer
-- order, a read's numbers, 8, and 9 or 10; last 15. A refused query counts no load".
use Rattle.std.specs.Prelude.{◌≡◌, List, [], ◌∷◌, ◌++◌, ℕ, suc, ◌+◌, ◌-◌, ◌/◌, ◌^◌, min, leb, length, get_or, Result, Ok, Err}
use Rattle.laws.specs.Pick.{pick}
use Rattle.laws.specs.Bytes.{zeros}
use Rattle.refusal.specs.declared.Refusal.{Refusal}
use Rattle.refusal.specs.Refusals.{refusal_of}
use Rattle.types.specs.declared.BlockReference.{BlockReference}
use Rattle.wal_position.specs.Checks.{unless}
use Rattle.tables.specs.Tables.{table_of}
use Rattle.index.specs.Keys.{key_words}
use Rattle.store.specs.declared.BlockStore.{BlockStore}
use Rattle.store.specs.Store.{indexed, call_check, loaded}
use Rattle.block_reader.specs.Reading as reading
use Rattle.block_reader.specs.Reading.{BlockRead, block_at}
use Rattle.query.specs.declared.Looked.{Looked}

-- ---- The blocks of rows

-- a row of an answer: the reference in the block, the place of its bytes, and their number
unfoldable pub answer_row : BlockReference → ℕ → ℕ → List ℕ
answer_row r at n = key_words r ++ (at ∷ n ∷ [])

-- the blocks of some rows, in order, or the number of the first that cannot be read
pub data Blocks : Type 0 where
  failed : ℕ → Blocks
  all : List (List ℕ) → Blocks

unfoldable pub also : List ℕ → Blocks → Blocks
also row (failed n) = failed n
also row (all rows) = all (row ∷ rows)

-- a block, and those behind it
unfoldable pub followed_by : BlockRead → Blocks → Blocks
followed_by (reading.BlockRead.refused n) rest = failed n
followed_by (reading.BlockRead.got r at n) rest = also (answer_row r at n) rest

unfoldable pub read_rows : ℕ → List ℕ → ℕ → List (List ℕ) → Blocks
read_rows k s used [] = all []
read_rows k s used (r ∷ rows) = followed_by (block_at k s used (get_or r 6 0)) (read_rows k s used rows)

-- ---- The answer

-- "every block looked up is read from the log, and an unloaded one adds 1 to one load counter, which stays at 2^64 − 1"
unfoldable pub unloaded : List (List ℕ) → ℕ
unloaded [] = 0
unloaded (r ∷ rows) = pick (loaded r) (unloaded rows) (suc (unloaded rows))

unfoldable pub counted : BlockStore → ℕ → BlockStore
counted s n =
    record {
      committee_size = s.committee_size;
      authority = s.authority;
      rows = s.rows;
      loads = min (s.loads + n) (2 ^ 64 - 1);
      summary = s.summary;
    }

-- what a query comes to: a refusal's number, or its rows
pub data Query : Type 0 where
  refused : ℕ → Query
  answers : List (List ℕ) → Query

-- "last 15": more rows than lent
unfoldable pub fitting : ℕ → Blocks → Query
fitting lent (failed n) = refused n
fitting lent (all rows) = pick (leb (length rows) lent) (answers rows) (refused 15)

unfoldable pub looked_up : BlockStore → List (List ℕ) → Query → Result Looked Refusal
looked_up store chosen (refused n) = Err (refusal_of n)
looked_up store chosen (answers rows) = Ok (record { rows = length rows; store = counted store (unloaded chosen) })

-- "a refused .. query leaves its answer tables all zero"; "unused answer rows are zero"
unfoldable pub answer_words : ℕ → Query → List ℕ
answer_words n (refused m) = zeros n
answer_words n (answers rows) = table_of n rows

-- ---- The call

-- what every query is lent: k, the image and used, the store and its index
pub record Call : Type 0 where
  pub exponent : ℕ
  pub image : List ℕ
  pub used : ℕ
  pub store : BlockStore
  pub index : List ℕ

abbrev pub call_of : ℕ → List ℕ → ℕ → BlockStore → List ℕ → Call
call_of k image used store index = record { exponent = k; image = image; used = used; store = store; index = index }

-- 1, 2, 18
abbrev pub call_number : Call → ℕ
call_number c = call_check c.exponent c.used (length c.image) c.store c.index

-- what a query asks: in which call, the number of its checks, and the rows of the index that are to be read
pub record Question : Type 0 where
  pub call : Call
  pub number : ℕ
  pub chosen : List (List ℕ)

abbrev pub asking : Call → ℕ → (List (List ℕ) → List (List ℕ)) → Question
asking c n filter = record { call = c; number = n; chosen = filter (indexed c.store c.index) }

-- what it comes to, where `lent` rows are lent for the answer
unfoldable pub query : Question → ℕ → Query
query q lent = unless q.number refused (fitting lent (read_rows q.call.exponent q.call.image q.call.used q.chosen))

-- the answer, and the words of the answer table, where `words` words are lent for it
unfoldable pub looked : Question → ℕ → Result Looked Refusal
looked q words = looked_up q.call.store q.chosen (query q (words / 8))

unfoldable pub looked_table : Question → ℕ → List ℕ
looked_table q words = answer_words words (query q (words / 8))

-- the contract of a query: `out` is the table lent for the answer, `out'` what it holds after the call
pub record QueryAnswers (q : Question) (r : Result Looked Refusal) (out out' : List ℕ) : Type 0 where
  pub answer : r ≡ looked q (length out)
  pub words : out' ≡ looked_table q (length out)
