-- The records that a caller gives an encoder as words, and the words of an encoder's answer.
use Rattle.std.specs.Prelude.{◌≡◌, List, [], ◌∷◌, ℕ, Result, Ok, Err, eqb, get_or}
use Rattle.std.proofs.Math.Option.{Option, none, some}
use Rattle.laws.specs.Pick.{pick}
use Rattle.types.specs.declared.TransactionLocator.{TransactionLocator}
use Rattle.types.specs.declared.TransactionLocatorRange.{TransactionLocatorRange}
use Rattle.types.specs.Records.{VoteValue, accept, reject, vote_on, statement_bytes}
use Rattle.encode.specs.declared.EncodeError.{EncodeError}
use Rattle.encode.specs.declared.EncodeError.TheVariants.{NoRoom, Malformed}
use Rattle.encode.specs.Encoding.{answer_at, encoded_at}
use Rattle.encode_blocks.specs.declared.BlockFields.{BlockFields}
use Rattle.node_store.specs.Stores.{flagged, reference_of}

-- the locator in seven words, and the range in eight: what `locator_words` and `range_words` put there (proofs/Encoding.antt)
unfoldable pub locator_of : List ℕ → TransactionLocator
locator_of w = record { block = reference_of w; offset = get_or w 6 0 }

unfoldable pub range_of : List ℕ → TransactionLocatorRange
range_of w = record { block = reference_of w; offset_start_inclusive = get_or w 6 0; offset_end_exclusive = get_or w 7 0 }

-- the vote of a kind: 0 accepts, 1 rejects, 2 rejects and names the other locator. Any other kind is no vote.
unfoldable pub vote_given : ℕ → TransactionLocator → Option VoteValue
vote_given kind other =
    pick (eqb kind 0) (some accept)
    (pick (eqb kind 1) (some (reject none))
    (pick (eqb kind 2) (some (reject (some other)))
    none))

-- the bytes of the statement Vote
abbrev pub vote_with : TransactionLocator → VoteValue → List ℕ
vote_with l v = statement_bytes (vote_on l v)

-- a block but for its lists: the reference, the numbers of includes and of statements, the creation time's low and high half, and the epoch
-- marker, in eleven words; and the signature
unfoldable pub block_fields_of : List ℕ → List ℕ → BlockFields
block_fields_of w signature =
    record {
      reference = reference_of w;
      include_count = get_or w 6 0;
      statement_count = get_or w 7 0;
      meta_creation_time_ns = record { low = get_or w 8 0; high = get_or w 9 0 };
      epoch_marker = flagged (get_or w 10 0);
      signature = record { 0 = signature };
    }

-- ---- What an encoder answers

-- 1 and the place behind the record; 0 where what was given is none; 2 where it does not fit
unfoldable pub encoded_words : Result ℕ EncodeError → List ℕ
encoded_words (Ok end) = 1 ∷ end ∷ []
encoded_words (Err Malformed) = 0 ∷ 0 ∷ []
encoded_words (Err NoRoom) = 2 ∷ 0 ∷ []

-- An encoder is given the bytes to write at a place, or none where what its caller gave is no record. It answers the number n, which is
-- always 0, and the words a, and leaves `after` in the buffer `out` that it is lent: `Encodes` of the crate encode, with the answer as words.
pub record EncodesWords (out : List ℕ) (at : ℕ) (v : Option (List ℕ)) (n : ℕ) (a after : List ℕ) : Type 0 where
  pub number : n ≡ 0
  pub words : a ≡ encoded_words (answer_at out at v)
  pub bytes : after ≡ encoded_at out at v
