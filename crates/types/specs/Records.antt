-- The records of a block (document 01, "Records"): parser and layout side by side. A parser gives the decoded value. Fields stand in
-- the order of the document's sentences, one behind the other.
use Rattle.std.specs.Prelude.{Bool, List, ◌++◌, ℕ, eqb}
use Rattle.std.proofs.Math.Option.{Option}
use Rattle.laws.specs.Pick.{pick}
use Rattle.laws.specs.Bytes.{le}
use Rattle.laws.specs.Parse.{Parser, bad, got, then, number}
use Rattle.bincode.specs.Bincode.{bool, bool_bytes, option, option_bytes, vec, vec_bytes, byte_string, byte_string_bytes}
use Rattle.crypto.specs.declared.SignatureBytes.{SignatureBytes}
use Rattle.crypto.specs.Records.{digest, digest_bytes, signature, signature_bytes}
use Rattle.types.specs.declared.BlockReference.{BlockReference}
use Rattle.types.specs.declared.TransactionLocator.{TransactionLocator}
use Rattle.types.specs.declared.TransactionLocatorRange.{TransactionLocatorRange}

-- "Reference: authority u64, round u64, digest."
unfoldable pub reference : Parser BlockReference
reference s p =
    then (number 8 s p) (λ a e.
    then (number 8 s e) (λ r f.
    then (digest s f) (λ d g.
    got (record { authority = a; round = r; digest = d }) g)))

unfoldable pub reference_bytes : BlockReference → List ℕ
reference_bytes r = le 8 r.authority ++ le 8 r.round ++ digest_bytes r.digest

-- "Locator: reference, offset u64."
unfoldable pub locator : Parser TransactionLocator
locator s p =
    then (reference s p) (λ b e.
    then (number 8 s e) (λ o f.
    got (record { block = b; offset = o }) f))

unfoldable pub locator_bytes : TransactionLocator → List ℕ
locator_bytes l = reference_bytes l.block ++ le 8 l.offset

-- "2 VoteRange (reference, start u64, end u64)": what stands behind the variant
unfoldable pub range : Parser TransactionLocatorRange
range s p =
    then (reference s p) (λ b e.
    then (number 8 s e) (λ start f.
    then (number 8 s f) (λ end g.
    got (record { block = b; offset_start_inclusive = start; offset_end_exclusive = end }) g)))

unfoldable pub range_bytes : TransactionLocatorRange → List ℕ
range_bytes r = reference_bytes r.block ++ le 8 r.offset_start_inclusive ++ le 8 r.offset_end_exclusive

-- "0 Accept or 1 Reject with optional locator"
pub data VoteValue : Type 0 where
  accept : VoteValue
  reject : Option TransactionLocator → VoteValue

unfoldable pub vote : Parser VoteValue
vote s p =
    then (number 4 s p) (λ variant e.
    pick (eqb variant 0) (got accept e)
    (pick (eqb variant 1) (then (option locator s e) (λ other f. got (reject other) f))
    bad))

unfoldable pub vote_bytes : VoteValue → List ℕ
vote_bytes accept = le 4 0
vote_bytes (reject other) = le 4 1 ++ option_bytes locator_bytes other

-- "Statement: 0 Share (byte count, bytes), 1 Vote (locator, then [a vote]), 2 VoteRange (reference, start u64, end u64)."
pub data StatementValue : Type 0 where
  share : List ℕ → StatementValue
  vote_on : TransactionLocator → VoteValue → StatementValue
  vote_range : TransactionLocatorRange → StatementValue

unfoldable pub statement : Parser StatementValue
statement s p =
    then (number 4 s p) (λ variant e.
    pick (eqb variant 0) (then (byte_string s e) (λ bytes f. got (share bytes) f))
    (pick (eqb variant 1) (then (locator s e) (λ l f. then (vote s f) (λ v g. got (vote_on l v) g)))
    (pick (eqb variant 2) (then (range s e) (λ r f. got (vote_range r) f))
    bad)))

unfoldable pub statement_bytes : StatementValue → List ℕ
statement_bytes (share bytes) = le 4 0 ++ byte_string_bytes bytes
statement_bytes (vote_on l v) = le 4 1 ++ locator_bytes l ++ vote_bytes v
statement_bytes (vote_range r) = le 4 2 ++ range_bytes r

-- "Block: reference, includes (references), statements, creation time (16 bytes), epoch marker (bool), signature. The digest is not
-- recomputed." The creation time is a number of 128 bits, in two halves of 8 bytes, the low one first.
pub record BlockValue : Type 0 where
  pub reference : BlockReference
  pub includes : List BlockReference
  pub statements : List StatementValue
  pub time_low : ℕ
  pub time_high : ℕ
  pub epoch_marker : Bool
  pub signature : SignatureBytes

unfoldable pub block : Parser BlockValue
block s p =
    then (reference s p) (λ r e₁.
    then (vec reference s e₁) (λ is e₂.
    then (vec statement s e₂) (λ ss e₃.
    then (number 8 s e₃) (λ low e₄.
    then (number 8 s e₄) (λ high e₅.
    then (bool s e₅) (λ m e₆.
    then (signature s e₆) (λ sig e₇.
    got (record { reference = r; includes = is; statements = ss; time_low = low; time_high = high; epoch_marker = m; signature = sig }) e₇)))))))

unfoldable pub block_bytes : BlockValue → List ℕ
block_bytes b =
    reference_bytes b.reference
    ++ vec_bytes reference_bytes b.includes
    ++ vec_bytes statement_bytes b.statements
    ++ le 8 b.time_low
    ++ le 8 b.time_high
    ++ bool_bytes b.epoch_marker
    ++ signature_bytes b.signature

-- "2 payload (list of statements)"
unfoldable pub payload : Parser (List StatementValue)
payload s p = vec statement s p

unfoldable pub payload_bytes : List StatementValue → List ℕ
payload_bytes ss = vec_bytes statement_bytes ss
