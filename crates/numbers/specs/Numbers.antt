-- Document 01, "What a call answers": "A refusal gives its number", one of the table's 19. The rules' definitions give numbers; the calls
-- answer values of `Refusal`, by `refusal_of`, which sends every number that is not in the table to `AfterRound` (19). Here each call's
-- answer has the number that its rules give, and 0 where they refuse nothing, so that no number is lost on the way. The arguments are
-- any, as the calls have no preconditions.
use Rattle.std.specs.Prelude.{◌≡◌, List, [], ◌∷◌, ℕ, ◌/◌, leb, length, get_or}
use Rattle.laws.specs.Pick.{pick}
use Rattle.laws.specs.Parse.{answer}
use Rattle.refusal.specs.Refusals.{number_of, checked}
use Rattle.types.specs.declared.BlockReference.{BlockReference}
use Rattle.types.specs.declared.TransactionLocator.{TransactionLocator}
use Rattle.types.specs.Records.{BlockValue, block}
use Rattle.wal_position.specs.Checks.{unless, log_check}
use Rattle.wal_writer.specs.declared.WalWriter.{WalWriter}
use Rattle.wal_writer.specs.Append as append
use Rattle.wal_writer.specs.Append.{Placed, accepted, place}
use Rattle.wal_writer.specs.Answers.{place_of, placed, append_answer}
use Rattle.wal_reader.specs.Read as read
use Rattle.wal_reader.specs.Read.{Read, found, read_at}
use Rattle.wal_reader.specs.Answers.{read_answer}
use Rattle.wal.specs.Walk as walk
use Rattle.wal.specs.Walk.{Step, listed, Ending, walk_step}
use Rattle.wal.specs.Answers.{walk_step_answer, walk_answer}
use Rattle.committee.specs.Committee.{committee_check}
use Rattle.replay.specs.Recovery as recovery
use Rattle.replay.specs.Recovery.{Lent, Recovery, recovered, recover}
use Rattle.recovered.specs.declared.Recovered.{Recovered}
use Rattle.recovered.specs.Answers.{resumed_of}
use Rattle.replay_log.specs.Answers.{recovered_of}
use Rattle.page.specs.Answers.{refusal_in}
use Rattle.store.specs.declared.BlockStore.{BlockStore}
use Rattle.store.specs.Store.{indexed, call_check, opened}
use Rattle.exists.specs.Exists.{block_exists, block_exists_at, all_blocks_exist_at}
use Rattle.cleanup.specs.Cleanup.{cleanup_answer}
use Rattle.block_reader.specs.Reading as reading
use Rattle.block_reader.specs.Reading.{BlockRead, got, block_at, read_of}
use Rattle.filters.specs.Filters.{by_reference}
use Rattle.query.specs.Query as query
use Rattle.query.specs.Query.{Query, answers, call_of, Question, looked}
use Rattle.lookup.specs.Lookups.{get_block, get_blocks_by_round, get_blocks_at_authority_round}
use Rattle.lookup_after.specs.After.{get_own_blocks, get_others_blocks}
use Rattle.transaction.specs.Transaction.{get_transaction}
use Rattle.reach.specs.Blocks.{Reads, failed, all, read_blocks}
use Rattle.linked.specs.Linked.{looked_up, linked_answer}
use Rattle.indexing.specs.Indexing.{Insertion, refuse, insert}
use Rattle.insert.specs.Insert.{insertion, inserted_answer}
use Rattle.node_words.specs.Words.{number_at}

-- ---- The numbers of what the rules come to: 0 where they refuse nothing

abbrev pub placed_number : Placed → ℕ
placed_number (accepted start) = 0
placed_number (append.Placed.refused n) = n

abbrev pub read_number : Read → ℕ
read_number (found a) = 0
read_number (read.Read.refused n) = n

abbrev pub step_number : Step → ℕ
step_number (listed a) = 0
step_number (walk.Step.stopped w) = 0
step_number (walk.Step.refused n p) = n

abbrev pub ending_number : Ending → ℕ
ending_number (walk.Ending.stopped w e) = 0
ending_number (walk.Ending.refused n p) = n

abbrev pub recovery_number : Recovery → ℕ
recovery_number (recovered w e l) = 0
recovery_number (recovery.Recovery.refused n p) = n

abbrev pub query_number : Query → ℕ
query_number (answers rows) = 0
query_number (query.Query.refused n) = n

abbrev pub insertion_number : Insertion → ℕ
insertion_number (insert start r rows) = 0
insertion_number (refuse n) = n

-- of a block read, and of the blocks of `linked`
abbrev pub block_number : BlockRead → ℕ
block_number (got r at n) = 0
block_number (reading.BlockRead.refused n) = n

abbrev pub reads_number : Reads → ℕ
reads_number (all blocks) = 0
reads_number (failed n) = n

-- of a transaction: the block of the row with the locator's reference is read, if there is one
abbrev pub first_number : ℕ → List ℕ → ℕ → List (List ℕ) → ℕ
first_number k s used [] = 0
first_number k s used (r ∷ rows) = block_number (block_at k s used (get_or r 6 0))

-- ---- The calls

-- a lookup with this question, whatever words are lent for its answer
abbrev pub KeepsLookup : Question → Type 0
KeepsLookup q = (words : ℕ) → number_of (looked q words) ≡ query_number (query.query q (words / 8))

-- The calls on this log, and on the store that is lent with it. An append has its own writer, and a read, a step, a walk and a recovery
-- take no store.
pub record Keeps (k : ℕ) (image : List ℕ) (used : ℕ) (store : BlockStore) (index : List ℕ) : Type 0 where
  -- the checks 1 and 2, of a committee 18, and all three of a lent store
  pub checks_log : number_of (checked (log_check k used (length image))) ≡ log_check k used (length image)
  pub checks_committee : (size own : ℕ) → number_of (checked (committee_check size own)) ≡ committee_check size own
  pub checks_call : number_of (checked (call_check k used (length image) store index)) ≡ call_check k used (length image) store index
  -- "Append checks 1, 2, 3, 4.", and so does the place of an entry of n bytes by itself
  pub places : (n : ℕ) → number_of (place_of (place k used (length image) n)) ≡ placed_number (place k used (length image) n)
  pub appends : (w : WalWriter) (payload : List ℕ)
      → number_of (append_answer w image payload) ≡ placed_number (placed w image payload)
  -- "Read checks 1, 2, 17 (position), 16 (region), 17 (header), 16 or 5, 6, 17 (payload), 7."
  pub reads : (p : ℕ) → number_of (read_answer k image used p) ≡ read_number (read_at k image used p)
  -- a block that is read by its position: a read's numbers, 8, and 9 or 10
  pub reads_block : (p : ℕ) → number_of (read_of (block_at k image used p)) ≡ block_number (block_at k image used p)
  -- "A walk checks 1, 2, then per entry 5, 6, 7."
  pub steps : (e : ℕ) → number_at (walk_step_answer k image used e) ≡ step_number (walk_step k image used e)
  pub walks : number_at (walk_answer k image used) ≡ ending_number (walk.walk k image used).ending
  -- "Recovery checks 1, 2, 18 .., then each entry in log order: 5, 6, 7, 8, then 9, 10 or 12, then 13, 14, 15; 11 comes last", and so does
  -- the recovery page
  pub recovers : (size own : ℕ) (lent : Lent)
      → number_at (recovered_of used own (recover k image used size own lent)).walked ≡ recovery_number (recover k image used size own lent)
  pub page : (size own : ℕ) (lent : Lent)
      → number_of (refusal_in (recover k image used size own lent)) ≡ recovery_number (recover k image used size own lent)
  -- opening: the number of the recovery, then 18 for the committee
  pub opens : (size own : ℕ) (r : Recovered)
      → number_of (opened size own r) ≡ unless (number_at r.walked) (λ n. n) (committee_check size own)
  -- the writer to go on with: the number of the recovery
  pub resumes : (r : Recovered) → number_of (resumed_of k r) ≡ number_at r.walked
  -- "Queries and cleanup check 1, 2, 18."
  pub has_block : (reference : BlockReference)
      → number_of (block_exists k image used store index reference) ≡ call_check k used (length image) store index
  pub has_block_at : (authority round : ℕ)
      → number_of (block_exists_at k image used store index authority round) ≡ call_check k used (length image) store index
  pub has_blocks_at : (authors : List ℕ) (round : ℕ)
      → number_of (all_blocks_exist_at k image used store index authors round) ≡ call_check k used (length image) store index
  pub cleans : (t : ℕ) → number_of (cleanup_answer k image used store index t) ≡ call_check k used (length image) store index
  -- "A query then checks 19, then for each block it reads, in answer order, a read's numbers, 8, and 9 or 10; last 15."
  pub at_reference : (reference : BlockReference) → KeepsLookup (get_block (call_of k image used store index) reference)
  pub at_round : (round : ℕ) → KeepsLookup (get_blocks_by_round (call_of k image used store index) round)
  pub at_author_round : (author round : ℕ) → KeepsLookup (get_blocks_at_authority_round (call_of k image used store index) author round)
  pub own_blocks : (after limit : ℕ) → KeepsLookup (get_own_blocks (call_of k image used store index) after limit)
  pub others_blocks : (after author limit : ℕ) → KeepsLookup (get_others_blocks (call_of k image used store index) after author limit)
  -- the same for a transaction, whose block is that of the first row with the locator's reference
  pub transaction : (locator : TransactionLocator)
      → number_of (get_transaction k image used store index locator)
      ≡ unless (call_check k used (length image) store index) (λ n. n)
      (first_number k image used (by_reference locator.block (indexed store index)))
  -- `linked`: "Before any read it checks 9 for the later block, then 15 for its working rows"
  pub linked : (bytes : List ℕ) (earlier : BlockReference) (lent : ℕ)
      → number_of (linked_answer k image used store index bytes earlier lent)
      ≡ unless (call_check k used (length image) store index) (λ n. n)
      (answer 9
      (λ (later : BlockValue) e.
      pick (leb store.rows lent) (reads_number (read_blocks k image used (looked_up later earlier (indexed store index)))) 15)
      (block bytes 0))
  -- "Insert .. checks 1, 2, 18, 3, 4, 9 or 10, 13, 14, 15 before it writes"; no call takes a tag other than 1 and 3
  pub inserts : (w : WalWriter) (tag : ℕ) (payload : List ℕ)
      → number_of (inserted_answer w store tag payload image index) ≡ insertion_number (insertion w (length image) store index tag payload)

abbrev pub Numbers : Type 0
Numbers = (k : ℕ) (image : List ℕ) (used : ℕ) (store : BlockStore) (index : List ℕ) → Keeps k image used store index
