-- The words of the answer of each call on a block store, in the order in which they are put, and its number. What is missing is zeros.
use Rattle.std.specs.Prelude.{◌≡◌, Bool, Option, Some, None, List, [], ◌∷◌, ℕ, Result, Ok, Err}
use Rattle.refusal.specs.declared.Refusal.{Refusal}
use Rattle.refusal.specs.Refusals.{number, number_of}
use Rattle.store.specs.declared.BlockStore.{BlockStore}
use Rattle.indexing.specs.declared.Inserted.{Inserted}
use Rattle.query.specs.declared.Looked.{Looked}
use Rattle.transaction.specs.declared.FoundTransaction.{FoundTransaction}
use Rattle.linked.specs.declared.LinkedAnswer.{LinkedAnswer}
use Rattle.node_store.specs.Stores.{store_after}
use Rattle.node_words.specs.Words.{flag, span_words}
use Rattle.node_log.specs.Answers.{Gives}

-- the store that a call leaves: none where it is refused
unfoldable pub kept : {A : Type 0} → (A → BlockStore) → Result A Refusal → Option BlockStore
kept store (Ok x) = Some (store x)
kept store (Err r) = None

-- A call answers the number n, which is that of x, leaves the words a in its caller's array, which are v, and leaves the store that x has:
-- its words are w, and w' then, which a refusal does not change.
pub record GivesStore {A : Type 0} (its : A → BlockStore) (x : Result A Refusal) (v : List ℕ) (n : ℕ) (w w' a : List ℕ) : Type 0 where
  pub number : n ≡ number_of x
  pub store : w' ≡ store_after w (kept its x)
  pub words : a ≡ v

-- of a question: the number, and 1 for yes
unfoldable pub told_words : Result Bool Refusal → List ℕ
told_words (Ok b) = 0 ∷ flag b ∷ []
told_words (Err r) = number r ∷ 0 ∷ []

abbrev pub Tells : Result Bool Refusal → ℕ → List ℕ → Type 0
Tells x n a = Gives (number_of x) (told_words x) n a

-- of a cleanup: the number, and how many blocks were loaded
unfoldable pub cleaned_words : Result ℕ Refusal → List ℕ
cleaned_words (Ok n) = 0 ∷ n ∷ []
cleaned_words (Err r) = number r ∷ 0 ∷ []

abbrev pub Cleans : Result ℕ Refusal → ℕ → List ℕ → Type 0
Cleans x n a = Gives (number_of x) (cleaned_words x) n a

-- of an insert: the number, the entry's position, and used after the call: a refusal keeps it
unfoldable pub inserted_words : ℕ → Result Inserted Refusal → List ℕ
inserted_words used (Ok i) = 0 ∷ i.position.0 ∷ i.writer.used ∷ []
inserted_words used (Err r) = number r ∷ 0 ∷ used ∷ []

abbrev pub Logs : ℕ → Result Inserted Refusal → ℕ → List ℕ → List ℕ → List ℕ → Type 0
Logs used x n w w' a = GivesStore (λ (i : Inserted). i.store) x (inserted_words used x) n w w' a

-- of a lookup: the number, and how many rows were found
unfoldable pub looked_words : Result Looked Refusal → List ℕ
looked_words (Ok l) = 0 ∷ l.rows ∷ []
looked_words (Err r) = number r ∷ 0 ∷ []

abbrev pub Looks : Result Looked Refusal → ℕ → List ℕ → List ℕ → List ℕ → Type 0
Looks x n w w' a = GivesStore (λ (l : Looked). l.store) x (looked_words x) n w w' a

-- of a transaction's lookup: the number, whether there is one, and the place and the number of its bytes
unfoldable pub transaction_words : Result FoundTransaction Refusal → List ℕ
transaction_words (Ok t) = 0 ∷ span_words t.share
transaction_words (Err r) = number r ∷ span_words None

abbrev pub Shows : Result FoundTransaction Refusal → ℕ → List ℕ → List ℕ → List ℕ → Type 0
Shows x n w w' a = GivesStore (λ (t : FoundTransaction). t.store) x (transaction_words x) n w w' a

-- of the question for an ancestor: the number, and 1 for yes
unfoldable pub linked_words : Result LinkedAnswer Refusal → List ℕ
linked_words (Ok l) = 0 ∷ flag l.linked ∷ []
linked_words (Err r) = number r ∷ 0 ∷ []

abbrev pub Links : Result LinkedAnswer Refusal → ℕ → List ℕ → List ℕ → List ℕ → Type 0
Links x n w w' a = GivesStore (λ (l : LinkedAnswer). l.store) x (linked_words x) n w w' a
