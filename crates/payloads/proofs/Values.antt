-- Which payloads are small: the list has them all and no others. Both go by the values that the parser gives, and not by the bytes.
-- Assumes nothing.
use mathlib.Core.Path.{◌≡◌, refl, sym, ap, subst}
use mathlib.Core.List.Memᴰ
use mathlib.Core.List.{List, [], ◌∷◌, ◌++◌, append-nil, Memᴰ}
use mathlib.Core.Logic.{⊎_elim}
use Prim.Native.Nat.{ℕ, zero, suc, ◌+◌, ◌≤◌, ◌<◌}
use native.Mathlib.Nat.{lt_of_le_of_lt}
use native.Mathlib.Omega.{arith}
use lib.Dec.{lit<, lit≤}
use lib.ListN.{length, length-append}
use Rattle.laws.specs.Bytes.{AllBytes, le}
use Rattle.laws.specs.Numbers.{numbers_from}
use Rattle.laws.specs.Parse.{joined}
use Rattle.laws.proofs.AllBytes.{bytes_joined, bytes_le}
use Rattle.laws.proofs.LittleEndian.{length_le}
use Rattle.laws.proofs.Numbers.{in_numbers, below_numbers}
use Rattle.bincode.specs.Bincode.{vec_bytes, byte_string_bytes}
use Rattle.types.specs.declared.TransactionLocator.{TransactionLocator}
use Rattle.types.specs.declared.TransactionLocatorRange.{TransactionLocatorRange}
use Rattle.types.specs.Records.{VoteValue, StatementValue, share, vote_on, vote_range, statement_bytes, range_bytes, payload_bytes}
use Rattle.put_records.proofs.Lengths.{length_counted, length_digest, length_reference, length_locator, length_range}
use Rattle.encode.proofs.Sizes.{share_size, vote_on_length}
use Rattle.roundtrip.specs.Valid.{nil, more, ValidStatement, shares, ValidList}
use Rattle.roundtrip.proofs.Blocks.{payload_inverse}
use Rattle.roundtrip.proofs.Spans.{itself}
use Rattle.roundtrip.proofs.Wholes.{record_bytes}
use Rattle.payloads.specs.Small.{SmallPayload, share_payload, small_payloads}

-- ---- Sizes

payload_size : (xs : List StatementValue) → length (payload_bytes xs) ≡ 8 + length (joined statement_bytes xs)
unfolding payload_bytes vec_bytes
payload_size xs = length_counted (length xs) (joined statement_bytes xs)

one_size : (x : StatementValue) → length (joined statement_bytes (x ∷ [])) ≡ length (statement_bytes x)
unfolding joined
one_size x = ap length (append-nil (statement_bytes x))

more_size : (x : StatementValue) (xs : List StatementValue)
    → length (joined statement_bytes (x ∷ xs)) ≡ length (statement_bytes x) + length (joined statement_bytes xs)
unfolding joined
more_size x xs = length-append (statement_bytes x) (joined statement_bytes xs)

-- a statement that is no Share has a reference, and so more than 13 bytes
vote_on_long : (l : TransactionLocator) (v : VoteValue) → 13 < length (statement_bytes (vote_on l v))
vote_on_long l v =
    omega (arith, vote_on_length l v, length_locator l, length_reference l.block, length_digest l.block.digest)

vote_range_long : (r : TransactionLocatorRange) → 13 < length (statement_bytes (vote_range r))
unfolding statement_bytes
vote_range_long r =
    omega (
      arith,
      length-append (le 4 2) (range_bytes r),
      length_le 4 2,
      length_range r,
      length_reference r.block,
      length_digest r.block.digest,
    )

statement_least : (x : StatementValue) → 12 ≤ length (statement_bytes x)
statement_least (share bytes) = omega (arith, share_size bytes)
statement_least (vote_on l v) = omega (arith, vote_on_long l v)
statement_least (vote_range r) = omega (arith, vote_range_long r)

-- ---- Complete

-- the byte of a Share of one byte is the payload's last
last_byte : (b : ℕ) → AllBytes (share_payload (b ∷ [])) → b < 256
unfolding share_payload payload_bytes vec_bytes statement_bytes byte_string_bytes joined le
last_byte b bytes = bytes 20

-- the statements of a small payload are one of the three kinds of the list
value_listed : (xs : List StatementValue) → AllBytes (payload_bytes xs) → length (payload_bytes xs) ≤ 21
    → Memᴰ (payload_bytes xs) small_payloads
unfolding small_payloads share_payload
value_listed [] bytes small = Memᴰ.head refl
value_listed (share [] ∷ []) bytes small = Memᴰ.tail (Memᴰ.head refl)
value_listed (share (b ∷ []) ∷ []) bytes small =
    Memᴰ.tail (Memᴰ.tail (Memᴰ.map (λ c. share_payload (c ∷ [])) (in_numbers 0 256 b (omega arith) (last_byte b bytes))))
value_listed (share (a ∷ b ∷ rest) ∷ []) bytes small =
    absurd
    (omega (
      arith,
      payload_size (share (a ∷ b ∷ rest) ∷ []),
      one_size (share (a ∷ b ∷ rest)),
      share_size (a ∷ b ∷ rest),
    ))
value_listed (vote_on l v ∷ []) bytes small =
    absurd (omega (arith, payload_size (vote_on l v ∷ []), one_size (vote_on l v), vote_on_long l v))
value_listed (vote_range r ∷ []) bytes small =
    absurd (omega (arith, payload_size (vote_range r ∷ []), one_size (vote_range r), vote_range_long r))
value_listed (x ∷ y ∷ xs) bytes small =
    absurd
    (omega (arith, payload_size (x ∷ y ∷ xs), more_size x (y ∷ xs), more_size y xs, statement_least x, statement_least y))

-- what the parser takes whole is the layout of what it gives
pub decoded_bytes : {s : List ℕ} (p : SmallPayload s) → payload_bytes p.statements ≡ s
decoded_bytes {s} p = record_bytes payload_inverse s p.bytes p.decodes

pub complete : (s : List ℕ) → SmallPayload s → Memᴰ s small_payloads
complete s p =
    let e = decoded_bytes p in
    subst (λ (t : List ℕ). Memᴰ t small_payloads) e
    (value_listed p.statements (subst AllBytes (sym e) p.bytes) (rw e p.short))

-- ---- Sound

-- a payload of valid statements decodes to them
laid_decodes : (xs : List StatementValue) → ValidList ValidStatement xs → AllBytes (payload_bytes xs) → length (payload_bytes xs) ≤ 21
    → SmallPayload (payload_bytes xs)
laid_decodes xs valid bytes short =
    record {
      bytes = bytes;
      short = short;
      statements = xs;
      decodes = payload_inverse.decoded xs valid (itself (payload_bytes xs));
    }

none_small : SmallPayload (payload_bytes [])
unfolding payload_bytes vec_bytes joined le
none_small = laid_decodes [] (record { count = lit< tt; each = nil }) (bytes_le 8 0) (lit≤ tt)

share_bytes_lem : (bytes : List ℕ) → AllBytes bytes → AllBytes (payload_bytes (share bytes ∷ []))
unfolding payload_bytes vec_bytes statement_bytes byte_string_bytes joined
share_bytes_lem bytes all =
    let statement = le 4 0 ++ (le 8 (length bytes) ++ bytes) in
    let counted = bytes_joined (le 8 (length bytes)) bytes (bytes_le 8 (length bytes)) all in
    bytes_joined (le 8 1) (statement ++ []) (bytes_le 8 1)
    (subst AllBytes (sym (append-nil statement)) (bytes_joined (le 4 0) (le 8 (length bytes) ++ bytes) (bytes_le 4 0) counted))

share_small : (bytes : List ℕ) → AllBytes bytes → length bytes ≤ 1 → SmallPayload (share_payload bytes)
unfolding share_payload
share_small bytes all few =
    laid_decodes (share bytes ∷ []) (record { count = lit< tt; each = more (shares (lt_of_le_of_lt few (lit< tt))) nil })
    (share_bytes_lem bytes all) (omega (arith, payload_size (share bytes ∷ []), one_size (share bytes), share_size bytes))

one_byte : (b : ℕ) → b < 256 → AllBytes (b ∷ [])
one_byte b h zero = h
one_byte b h (suc i) = lit< tt

pub sound : (s : List ℕ) → Memᴰ s small_payloads → SmallPayload s
unfolding small_payloads
sound s m =
    ⊎_elim
    (λ e. subst SmallPayload (sym e) none_small)
    (λ n.
    ⊎_elim
    (λ e. subst SmallPayload (sym e) (share_small [] (λ i. lit< tt) (lit≤ tt)))
    (λ k.
    let r = Memᴰ.of_map (λ b. share_payload (b ∷ [])) (numbers_from 0 256) k in
    subst SmallPayload r.2 (share_small (r.0 ∷ []) (one_byte r.0 (below_numbers 0 256 r.1)) (lit≤ tt)))
    (Memᴰ.cases_cons n))
    (Memᴰ.cases_cons m)
