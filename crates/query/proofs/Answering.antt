-- The answer of a query: refused by a check, or made of the blocks that were collected. Assumes nothing.
use mathlib.Core.Path.{◌≡◌, refl, sym, ap, ◌∙◌, subst}
use mathlib.Core.Bool.{true, false, true≢false}
use mathlib.Core.Logic.{⊎_elim}
use mathlib.Core.List.{List}
use Prim.Native.Nat.{ℕ, ◌/◌}
use lib.Dec.{leb}
use native.Mathlib.Omega.{arith}
use lib.ListN.{length}
use Rattle.std.specs.Prelude.{Result}
use Rattle.std.specs.Result.{is_err}
use Rattle.std.proofs.Common.{Ok, Err}
use borrow.Author.Tests.{lt-ltb, le-ltb}
use Rattle.laws.specs.Pick.{pick}
use Rattle.laws.proofs.Tests.{leb_cases}
use Rattle.tables.specs.Tables.{table_of}
use Rattle.laws.specs.Bytes.{zeros}
use Rattle.refusal.specs.declared.Refusal.{Refusal}
use Rattle.refusal.specs.Refusals.{checked}
use Rattle.refusal.proofs.Numbers.{passed, not_passed}
use Rattle.wal_position.specs.Checks.{unless}
use Rattle.wal_position.proofs.Checks.{unless_refused}
use Rattle.store.specs.declared.BlockStore.{BlockStore}
use Rattle.query.specs.declared.Looked.{Looked}
use Rattle.query.specs.Query.{Blocks, failed, all, read_rows, unloaded, Query, answers, fitting, looked_up, answer_words, Call, Question, query, looked, looked_table, QueryAnswers}
use Rattle.query.specs.Query as queries
use Rattle.query.specs.Collecting.{collected_of, HoldsRows, finished}

-- ---- What was collected, as an answer

module _ (store : BlockStore) (chosen : List (List ℕ)) (lent : ℕ) where
  -- what was collected is the answer: the rows fit, or there are too many
  pub collected_answer : (b : Blocks) → finished store (collected_of chosen b) lent ≡ looked_up store chosen (fitting lent b)
  unfolding finished collected_of looked_up fitting pick
  collected_answer (failed n) = refl
  collected_answer (all rows) =
      ⊎_elim
      (λ t. rw (le-ltb lent (length rows) t.1, t.0) refl)
      (λ f. rw (lt-ltb lent (length rows) f.1, f.0) refl)
      (leb_cases (length rows) lent)

  -- the table of a refusal, and of rows
  pub refused_words : (x : Query) (n : ℕ) → is_err (looked_up store chosen x) ≡ true → zeros n ≡ answer_words n x
  unfolding looked_up answer_words
  refused_words (queries.Query.refused m) n e = refl
  refused_words (answers rows) n e = absurd (true≢false (sym e))

  rows_words : (rows : List (List ℕ)) (out : List ℕ) → leb (length rows) lent ≡ true → out ≡ table_of (length out) rows
      → out ≡ answer_words (length out) (fitting lent (all rows))
  unfolding fitting answer_words pick
  rows_words rows out fits is = sym (rw fits (sym is))

  too_many : (rows : List (List ℕ)) → leb (length rows) lent ≡ false → is_err (looked_up store chosen (fitting lent (all rows))) ≡ true
  unfolding fitting looked_up pick
  too_many rows more = rw more refl

  pub answered_words : (b : Blocks) (out : List ℕ) → lent ≡ length out / 8 → HoldsRows b out
      → is_err (looked_up store chosen (fitting lent b)) ≡ false → out ≡ answer_words (length out) (fitting lent b)
  unfolding looked_up fitting
  answered_words (failed n) out long holds answered = absurd (true≢false answered)
  answered_words (all rows) out long holds answered =
      ⊎_elim
      (λ t. rows_words rows out t.0 (holds (omega (arith, t.1, long))))
      (λ f. absurd (true≢false (sym (too_many rows f.0) ∙ answered)))
      (leb_cases (length rows) lent)

-- ---- A query

module _ (q : Question) {r : Result Looked Refusal} {out out' : List ℕ} where
  -- refused by a check, with a table that was cleared
  pub query_refused : {e : Refusal} → Err e ≡ checked q.number → r ≡ Err e → out' ≡ zeros (length out) → QueryAnswers q r out out'
  unfolding query looked looked_table looked_up answer_words
  query_refused found is clear =
      let both = not_passed q.number found in
      let same : queries.Query.refused q.number ≡ query q (length out / 8) = sym (unless_refused queries.Query.refused _ q.number both.0) in
      record {
        answer = is ∙ ap Err both.1 ∙ ap (looked_up q.call.store q.chosen) same;
        words = clear ∙ ap (answer_words (length out)) same;
      }

abbrev blocks : Call → List (List ℕ) → Blocks
blocks call chosen = read_rows call.exponent call.image call.used chosen

module _ (call : Call) (chosen : List (List ℕ)) {r : Result Looked Refusal} {out out' : List ℕ} where
  -- made of what was collected
  pub query_collected : r ≡ looked_up call.store chosen (fitting (length out / 8) (blocks call chosen))
      → out' ≡ answer_words (length out) (fitting (length out / 8) (blocks call chosen))
      → QueryAnswers (record { call = call; number = 0; chosen = chosen }) r out out'
  unfolding query looked looked_table unless
  query_collected is words = record { answer = is; words = words }

  -- the same question, once its checks have passed and its rows are found
  pub query_answers : {number : ℕ} {these : List (List ℕ)} → Ok tt ≡ checked number → these ≡ chosen
      → QueryAnswers (record { call = call; number = 0; chosen = these }) r out out'
      → QueryAnswers (record { call = call; number = number; chosen = chosen }) r out out'
  query_answers {number} {these} found same h =
      subst (λ (n : ℕ). QueryAnswers (record { call = call; number = n; chosen = chosen }) r out out') (sym (passed number found))
      (subst (λ (l : List (List ℕ)). QueryAnswers (record { call = call; number = 0; chosen = l }) r out out') same h)
