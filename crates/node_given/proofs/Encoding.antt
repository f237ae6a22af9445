-- The words of an encoder's answer, and the records that it is given as words. Assumes nothing.
use mathlib.Core.Path.{◌≡◌, ap, ◌∙◌}
use mathlib.Core.List.{List}
use mathlib.Core.Option.{Option}
use Prim.Native.Nat.{ℕ}
use Rattle.types.specs.declared.TransactionLocator.{TransactionLocator}
use Rattle.types.specs.declared.TransactionLocatorRange.{TransactionLocatorRange}
use Rattle.std.proofs.Common.{Result}
use Rattle.encode.specs.declared.EncodeError.{EncodeError}
use Rattle.encode.specs.Encoding.{Encodes}
use Rattle.index.specs.Keys.{Digested, key_words, digest_words}
use Rattle.node_store.specs.Stores.{reference_at, digest_at}
use Rattle.node_store.proofs.RoundTrip.{reference_back}
use Rattle.node_log.specs.Answers.{Gives}
use Rattle.node_records.specs.Answers.{locator_words, range_words}
use Rattle.node_given.specs.Given.{locator_of, range_of, encoded_words, EncodesWords}

-- an encoder's answer, put as words
pub encodes_words : {out : List ℕ} {at : ℕ} {v : Option (List ℕ)} {r : Result ℕ EncodeError} {after : List ℕ} {n : ℕ} {a : List ℕ}
    → Encodes out at v r after → Gives 0 (encoded_words r) n a → EncodesWords out at v n a after
encodes_words h g = record { number = g.number; words = g.words ∙ ap encoded_words h.answers; bytes = h.bytes }

-- ---- What is put as words is read from them

pub locator_back : (l : TransactionLocator) → Digested l.block → locator_of (locator_words l) ≡ l
unfolding locator_of locator_words reference_at digest_at key_words digest_words
locator_back l d = λ i. record { block = reference_back l.block d i; offset = l.offset }

pub range_back : (r : TransactionLocatorRange) → Digested r.block → range_of (range_words r) ≡ r
unfolding range_of range_words reference_at digest_at key_words digest_words
range_back r d =
    λ i.
    record {
      block = reference_back r.block d i;
      offset_start_inclusive = r.offset_start_inclusive;
      offset_end_exclusive = r.offset_end_exclusive;
    }
