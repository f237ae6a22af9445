-- Each call's answer has the number that its rules give. Assumes nothing.
use mathlib.Core.Path.{◌≡◌, refl}
use mathlib.Core.Bool.{Bool, true, false}
use mathlib.Core.List.{List, [], ◌∷◌}
use Prim.Native.Nat.{ℕ, zero, suc, ◌<◌}
use native.Mathlib.Omega.{arith}
use lib.Dec.{leb}
use lib.ListN.{length, get_or}
use Rattle.std.proofs.Common.{Result, Ok, Err}
use Rattle.laws.specs.Pick.{pick}
use Rattle.laws.specs.Parse.{Res, bad, got, answer}
use Rattle.refusal.specs.declared.Refusal.{Refusal}
use Rattle.refusal.specs.declared.Refusal.TheVariants.{Block, Rows}
use Rattle.refusal.specs.Refusals.{number, number_of, as_refused}
use Rattle.refusal.specs.Tabled.{Tabled}
use Rattle.refusal.proofs.Numbers.{tabled, numbered, positive_number, checked_number}
use Rattle.types.specs.declared.BlockReference.{BlockReference}
use Rattle.types.specs.Records.{BlockValue, block}
use Rattle.wal_position.specs.Checks.{unless, log_check}
use Rattle.wal_position.proofs.Checks.{unless_number, log_tabled}
use Rattle.wal_writer.specs.Append as append
use Rattle.wal_writer.specs.Append.{Placed, accepted}
use Rattle.wal_writer.specs.Answers.{place_of, appended_of}
use Rattle.wal_reader.specs.Read.{Read}
use Rattle.wal_reader.specs.Answers.{found_of}
use Rattle.wal_reader.proofs.ReadAnswers.{TabledRead, read_no, read_yes, read_at_tabled}
use Rattle.wal.specs.Walk as walk
use Rattle.wal.specs.Walk.{Step, listed, Ending, walk_step}
use Rattle.wal.specs.declared.Walked.{Walked}
use Rattle.wal.specs.declared.RefusedAt.{RefusedAt}
use Rattle.wal.specs.Answers.{refused_at, step_of, walked_of}
use Rattle.committee.specs.Committee.{committee_check}
use Rattle.committee.proofs.Checks.{committee_tabled}
use Rattle.replay.specs.Recovery as recovery
use Rattle.replay.specs.Recovery.{Recovery, recovered}
use Rattle.state.specs.declared.Replay.{Replay}
use Rattle.recovered.specs.Answers.{refused_with, writer_behind}
use Rattle.replay_log.specs.Answers.{recovered_of}
use Rattle.page.specs.Answers.{refusal_in}
use Rattle.bounds.proofs.Tabled.{Ends, Steps, Recovers, step_tabled, walk_tabled, recovers}
use Rattle.store.specs.declared.BlockStore.{BlockStore}
use Rattle.store.specs.Store.{indexed, call_check, opened_by}
use Rattle.cleanup.specs.Cleanup.{clean_answer}
use Rattle.block_reader.specs.Reading as reading
use Rattle.block_reader.specs.Reading.{BlockRead, block_at, read_of}
use Rattle.block_reader.proofs.Reading.{TabledBlock, refused_tabled, block_at_tabled}
use Rattle.query.specs.Query as query
use Rattle.query.specs.Query.{Query, answers, call_of, Question, looked_up, looked}
use Rattle.query.proofs.Tabled.{TabledQuery, query_tabled}
use Rattle.lookup_after.proofs.After.{after_tabled}
use Rattle.filters.specs.Filters.{by_reference}
use Rattle.transaction.specs.Transaction.{transaction_of, transaction_answer}
use Rattle.reach.specs.Blocks.{Reads, failed, all, read_blocks}
use Rattle.linked.specs.Linked as linked
use Rattle.linked.specs.Linked.{linked_of, linked_answer}
use Rattle.linked.proofs.Searching.{TabledReads, reads_tabled}
use Rattle.wal_writer.specs.declared.WalWriter.{WalWriter}
use Rattle.indexing.specs.Indexing.{Insertion, refuse, insert, inserted_of}
use Rattle.insert.proofs.Numbers.{call_tabled, PlaceTabled, place_tabled, InsertionTabled, insertion_tabled}
use Rattle.node_words.specs.Words.{number_at}
use Rattle.numbers.specs.Numbers.{placed_number, read_number, step_number, ending_number, recovery_number, query_number, insertion_number, block_number, reads_number, first_number, KeepsLookup, Numbers}

-- ---- What the rules come to, as an answer

place_number : (k n : ℕ) (x : Placed) → PlaceTabled x → number_of (appended_of k n x) ≡ placed_number x
unfolding number_of appended_of
place_number k n (accepted start) t = refl
place_number k n (append.Placed.refused m) t = numbered t

entry_number : (x : Placed) → PlaceTabled x → number_of (place_of x) ≡ placed_number x
unfolding number_of place_of
entry_number (accepted start) t = refl
entry_number (append.Placed.refused m) t = numbered t

read_block_number : (x : BlockRead) → TabledBlock x → number_of (read_of x) ≡ block_number x
unfolding number_of read_of
read_block_number (reading.BlockRead.got r at n) t = refl
read_block_number (reading.BlockRead.refused n) t = numbered (refused_tabled t)

found_number : {x : Read} → TabledRead x → number_of (found_of x) ≡ read_number x
unfolding number_of found_of
found_number (read_no t) = numbered t
found_number read_yes = refl

next_number : (x : Step) → Steps x → number_at (step_of x) ≡ step_number x
unfolding number_at step_of refused_at
next_number (listed a) t = refl
next_number (walk.Step.stopped w) t = refl
next_number (walk.Step.refused n p) t = numbered t

walked_number : (used : ℕ) (x : Ending) → Ends x → number_at (walked_of used x) ≡ ending_number x
unfolding number_at walked_of refused_at
walked_number used (walk.Ending.stopped w e) t = refl
walked_number used (walk.Ending.refused n p) t = numbered t

recovered_number : (used own : ℕ) (x : Recovery) → Recovers x → number_at (recovered_of used own x).walked ≡ recovery_number x
unfolding number_at recovered_of refused_with refused_at walked_of
recovered_number used own (recovered w e l) t = refl
recovered_number used own (recovery.Recovery.refused n p) t = numbered t

page_number : (x : Recovery) → Recovers x → number_of (refusal_in x) ≡ recovery_number x
unfolding number_of refusal_in
page_number (recovered w e l) t = refl
page_number (recovery.Recovery.refused n p) t = numbered t

opened_number : (size own : ℕ) (x : Result Walked RefusedAt) (r : Replay)
    → number_of (opened_by size own x r) ≡ unless (number_at x) (λ n. n) (committee_check size own)
unfolding number_of number_at opened_by unless
opened_number size own (Ok w) r = unless_number (committee_check size own) _ (committee_tabled size own)
opened_number size own (Err at) r = by (number at.refusal) (positive_number at.refusal)
  where
    by : (n : ℕ) → 0 < n → n ≡ unless n (λ (m : ℕ). m) (committee_check size own)
    by zero h = absurd (omega arith)
    by (suc n) h = refl

resumed_number : (k : ℕ) (x : Result Walked RefusedAt) → number_of (writer_behind k x) ≡ number_at x
unfolding number_of number_at writer_behind
resumed_number k (Ok w) = refl
resumed_number k (Err at) = refl

looked_number : (store : BlockStore) (chosen : List (List ℕ)) (x : Query) → TabledQuery x → number_of (looked_up store chosen x) ≡ query_number x
unfolding number_of looked_up
looked_number store chosen (answers rows) t = refl
looked_number store chosen (query.Query.refused n) t = numbered t

inserted_number : (w : WalWriter) (s : BlockStore) (n : ℕ) (x : Insertion) → InsertionTabled x → number_of (inserted_of w s n x) ≡ insertion_number x
unfolding number_of inserted_of
inserted_number w s n (insert start r rows) t = refl
inserted_number w s n (refuse m) t = numbered t

-- ---- What goes on behind a check

behind : {A : Type 0} {n : ℕ} → ((n ≡ 0 → ⊥) → Tabled n) → (x : Result A Refusal) {m : ℕ} → number_of x ≡ m
    → number_of (unless n as_refused x) ≡ unless n (λ (k : ℕ). k) m
unfolding number_of unless
behind {n = zero} t x h = h
behind {n = suc n} t x h = numbered (t (λ z. omega (arith, z)))

-- 9
decoded_number : {A B : Type 0} (f : A → Result B Refusal) (g : A → ℕ) → ((a : A) → number_of (f a) ≡ g a) → (x : Res A)
    → number_of (answer (as_refused 9) (λ a e. f a) x) ≡ answer 9 (λ a e. g a) x
unfolding number_of answer
decoded_number f g h bad = numbered (tabled Block)
decoded_number f g h (got a e) = h a

-- 15
lent_number : {A : Type 0} (t : Bool) (x : Result A Refusal) {m : ℕ} → number_of x ≡ m → number_of (pick t x (as_refused 15)) ≡ pick t m 15
unfolding number_of pick
lent_number true x h = h
lent_number false x h = numbered (tabled Rows)

first_read : (k : ℕ) (s : List ℕ) (used : ℕ) (store : BlockStore) (offset : ℕ) (chosen : List (List ℕ))
    → number_of (transaction_of k s used store offset chosen) ≡ first_number k s used chosen
unfolding number_of transaction_of
first_read k s used store offset [] = refl
first_read k s used store offset (r ∷ rows) =
    by (block_at k s used (get_or r 6 0)) refl (block_at_tabled k s used (get_or r 6 0))
  where
    by : (x : BlockRead) → block_at k s used (get_or r 6 0) ≡ x → TabledBlock x
        → number_of (transaction_of k s used store offset (r ∷ rows)) ≡ first_number k s used (r ∷ rows)
    by (reading.BlockRead.got b at n) is t = rw is refl
    by (reading.BlockRead.refused n) is t = rw is (numbered (refused_tabled t))

chain_number : (store : BlockStore) (chosen : List (List ℕ)) (later : BlockValue) (earlier : BlockReference) (x : Reads) → TabledReads x
    → number_of (linked_of store chosen later earlier x) ≡ reads_number x
unfolding number_of linked_of
chain_number store chosen later earlier (all blocks) t = refl
chain_number store chosen later earlier (failed n) t = numbered t

-- ---- The calls

module _ (k : ℕ) (image : List ℕ) (used : ℕ) (store : BlockStore) (index : List ℕ) where
  call : (call_check k used (length image) store index ≡ 0 → ⊥) → Tabled (call_check k used (length image) store index)
  call = call_tabled k used (length image) store index

  lookup : (q : Question) → ((q.number ≡ 0 → ⊥) → Tabled q.number) → KeepsLookup q
  unfolding looked
  lookup q t words = looked_number q.call.store q.chosen _ (query_tabled q _ t)

  transaction_number : (offset : ℕ) (chosen : List (List ℕ))
      → number_of (transaction_answer (call_check k used (length image) store index) k image used store offset chosen)
      ≡ unless (call_check k used (length image) store index) (λ n. n) (first_number k image used chosen)
  unfolding transaction_answer
  transaction_number offset chosen = behind call _ (first_read k image used store offset chosen)

  cleaned : (t : ℕ) (rows : List (List ℕ))
      → number_of (clean_answer (call_check k used (length image) store index) t rows) ≡ call_check k used (length image) store index
  unfolding clean_answer
  cleaned t rows = unless_number (call_check k used (length image) store index) _ call

  linked_number : (bytes : List ℕ) (earlier : BlockReference) (lent : ℕ)
      → number_of (linked_answer k image used store index bytes earlier lent)
      ≡ unless (call_check k used (length image) store index) (λ n. n)
      (answer 9
      (λ (later : BlockValue) e.
      pick (leb store.rows lent) (reads_number (read_blocks k image used (linked.looked_up later earlier (indexed store index)))) 15)
      (block bytes 0))
  unfolding linked_answer
  linked_number bytes earlier lent =
      behind call _
      (decoded_number _ _
      (λ later.
      let chosen = linked.looked_up later earlier (indexed store index) in
      lent_number (leb store.rows lent) _
      (chain_number store chosen later earlier (read_blocks k image used chosen) (reads_tabled k image used chosen)))
      (block bytes 0))

pub numbers : Numbers
numbers k image used store index =
    let check = call k image used store index in
    let c = call_of k image used store index in
    let exists = λ (b : Bool). unless_number (call_check k used (length image) store index) b check in
    record {
      checks_log = checked_number (log_check k used (length image)) (log_tabled k used (length image));
      checks_committee = λ size own. checked_number (committee_check size own) (committee_tabled size own);
      checks_call = checked_number (call_check k used (length image) store index) check;
      places = λ n. entry_number _ (place_tabled k used (length image) n);
      reads_block = λ p. read_block_number _ (block_at_tabled k image used p);
      appends = λ w payload.
          place_number w.exponent (length payload) _ (place_tabled w.exponent w.used (length image) (length payload));
      reads = λ p. found_number (read_at_tabled k image used p);
      steps = λ e. next_number (walk_step k image used e) (step_tabled k image used e);
      walks = walked_number used _ (walk_tabled k image used);
      recovers = λ size own lent. recovered_number used own _ (recovers k image used size own lent);
      page = λ size own lent. page_number _ (recovers k image used size own lent);
      opens = λ size own r. opened_number size own r.walked r.replay;
      resumes = λ r. resumed_number k r.walked;
      has_block = λ reference. exists _;
      has_block_at = λ authority round. exists _;
      has_blocks_at = λ authors round. exists _;
      cleans = λ t. cleaned k image used store index t (indexed store index);
      at_reference = λ reference. lookup k image used store index _ check;
      at_round = λ round. lookup k image used store index _ check;
      at_author_round = λ author round. lookup k image used store index _ check;
      own_blocks = λ after limit. lookup k image used store index _ (after_tabled c after check);
      others_blocks = λ after author limit. lookup k image used store index _ (after_tabled c after check);
      transaction = λ locator. transaction_number k image used store index locator.offset (by_reference locator.block (indexed store index));
      linked = linked_number k image used store index;
      inserts = λ w tag payload. inserted_number w store (length payload) _ (insertion_tabled w (length image) store index tag payload);
    }
