-- What each call answers, and what it leaves in what it is lent: equations with the definitions of the calls beneath.
use Rattle.std.specs.Prelude.{◌≡◌, List, ℕ, length, Result}
use Rattle.refusal.specs.Refusals.{number_of}
use Rattle.wal_writer.specs.Answers.{append_answer, append_image}
use Rattle.wal_writer.specs.declared.WalWriter.{WalWriter}
use Rattle.replay.specs.Recovery.{recover}
use Rattle.replay_log.specs.Answers.{recovered_of, Tables, rows_lent, tables_after}
use Rattle.text.specs.Put.{Put}
use Rattle.page_text.specs.Page.{page_of}
use Rattle.page.specs.Answers.{refusal_in}
use Rattle.insert.specs.Insert.{inserted_answer, inserted_image, inserted_index}
use Rattle.query.specs.Query.{Question, looked, looked_table}
use Rattle.wal.specs.declared.Walked.{Walked}
use Rattle.wal.specs.declared.RefusedAt.{RefusedAt}
use Rattle.node_words.specs.Words.{walked_words, number_at, recovered_words}
use Rattle.node_store.specs.Stores.{store_of}
use Rattle.node_log.specs.Answers.{append_words, Gives}
use Rattle.node_answers.specs.Answers.{Logs, Looks}

-- of a walk: the number, and the words of the answer
abbrev pub GivesWalk : Result Walked RefusedAt → ℕ → List ℕ → Type 0
GivesWalk x n a = Gives (number_at x) (walked_words x) n a

-- of a recovery: the same, and each word of the tables
pub record GivesRecovery (k : ℕ) (image : List ℕ) (used size own : ℕ) (before : Tables) (n : ℕ) (a : List ℕ) (after : Tables) : Type 0 where
  pub number : n ≡ number_at (recovered_of used own (recover k image used size own (rows_lent before))).walked
  pub words : a ≡ recovered_words (recovered_of used own (recover k image used size own (rows_lent before)))
  pub rows : after ≡ tables_after (recover k image used size own (rows_lent before)) before

-- of a recovery page: the number, the length of the whole text, each byte of the buffer and each word of the tables
pub record GivesPage (k : ℕ) (image : List ℕ) (used size own : ℕ) (before : Tables) (out : List ℕ) (n len : ℕ) (after : Tables) (out' : List ℕ) : Type 0 where
  pub number : n ≡ number_of (refusal_in (recover k image used size own (rows_lent before)))
  pub text : Put 0 (page_of (recover k image used size own (rows_lent before))) out out' len
  pub words : after ≡ tables_after (recover k image used size own (rows_lent before)) before

-- of an append: the number, the words of the answer, and the image before and after it
pub record GivesAppend (w : WalWriter) (tag : ℕ) (payload : List ℕ) (n : ℕ) (a image image' : List ℕ) : Type 0 where
  pub number : n ≡ number_of (append_answer w image payload)
  pub words : a ≡ append_words w.used (append_answer w image payload)
  pub log : image' ≡ append_image w image tag payload

-- of an insert: the number, the words of the answer and of the store, and the image and the index. `words` are the store's before the
-- call, `words'` those after it.
pub record GivesInsert (w : WalWriter) (tag : ℕ) (payload image index words : List ℕ)
    (n : ℕ) (words' a image' index' : List ℕ) : Type 0 where
  pub gives : Logs w.used (inserted_answer w (store_of words) tag payload image index) n words words' a
  pub log : image' ≡ inserted_image w (store_of words) tag payload image index
  pub rows : index' ≡ inserted_index w (store_of words) tag payload image index

-- of a lookup that asks q: the number, the words of the answer and of the store, and the rows found. `out` is the table lent for them.
pub record GivesLookup (q : Question) (words : List ℕ) (n : ℕ) (words' a out out' : List ℕ) : Type 0 where
  pub gives : Looks (looked q (length out)) n words words' a
  pub rows : out' ≡ looked_table q (length out)
