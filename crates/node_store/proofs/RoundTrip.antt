-- What is put as words is read from them. Assumes nothing.
use mathlib.Core.Path.{◌≡◌, refl, sym, ap, ap₂, ◌∙◌}
use mathlib.Core.List.{List, [], ◌∷◌, ◌++◌, append-nil, append_assoc}
use Prim.Native.Nat.{ℕ, zero, suc, ◌+◌, ◌*◌, ◌/◌, ◌%◌, ◌^◌, ◌≤◌, ◌<◌}
use native.Mathlib.Nat.{zero-add, suc-add, add-zero, pow-suc, mul_assoc, mul_comm, one-le-pow, pow-succ', mod-one, mul-add-div_right, div-eq_of_lt, mod-eq_of_lt}
use native.Mathlib.Omega.{arith}
use lib.Arith.{mod-mul}
use lib.Dec.{leb, lit<}
use borrow.Author.Tests.{le-leb}
use lib.ListN.{length, get_or, take}
use lib.Seq.{take-length}
use Rattle.laws.specs.Pick.{pick}
use Rattle.std.specs.Prelude.{Option, Some, None, Result, Ok, Err}
use Rattle.refusal.specs.Refusals.{number, number_of}
use Rattle.refusal.proofs.Numbers.{positive_number, number_most}
use Rattle.laws.specs.Bytes.{bytes_at, AllBytes}
use Rattle.laws.proofs.Written.{length_bytes_at, bytes_at_add}
use Rattle.types.specs.declared.BlockReference.{BlockReference}
use Rattle.index.specs.Keys.{of_be, Digested, digest_words, key_words}
use Rattle.laws.proofs.AllBytes.{bytes_part}
use Rattle.text.proofs.Clipped.{clipped_fits}
use Rattle.index.proofs.BigEndian.{of_be_lt}
use Rattle.wal.specs.declared.Walked.{Walked}
use Rattle.wal.specs.declared.RefusedAt.{RefusedAt}
use Rattle.wal_position.specs.Checks.{unless}
use Rattle.wal_position.proofs.Checks.{unless_passed, unless_refused, unless_number}
use Rattle.wal_writer.specs.declared.WalWriter.{WalWriter}
use Rattle.committee.specs.Committee.{committee_check}
use Rattle.committee.proofs.Checks.{committee_tabled}
use Rattle.replay.specs.Recovery.{Recovery}
use Rattle.replay_log.specs.Answers.{recovered_of}
use Rattle.recovered.specs.declared.Recovered.{Recovered}
use Rattle.recovered.specs.Answers.{writer_behind, resumed_of}
use Rattle.store.specs.Store.{opened_by, opened, opened_of}
use Rattle.store.specs.declared.BlockStore.{BlockStore}
use Rattle.node_words.specs.Words.{walked_words, number_at, span_words, found_words, head_words, summary_words, recovered_words}
use Rattle.node_store.specs.Stores.{store_words, words_at, be, flagged, digest_at, reference_at, reference_of, summary_in, store_of, reference_kept, store_after, recovery_number, resumed_used, opened_words, opened_number}
use Rattle.node_store.proofs.Stores.{length_be}
use Rattle.node_words.proofs.Words.{long_walked, long_head, long_span, long_found}
use Rattle.node_words.proofs.Long.{summary_long, rounds_long_lem}

-- ---- Bytes of a word

power : (n : ℕ) → 0 < 256 ^ n
power n = one-le-pow n 256 (lit< tt)

-- n bytes do not see a multiple of 256 ^ n
be_low : (n k x : ℕ) → be n (k * 256 ^ n + x) ≡ be n x
unfolding be
be_low zero k x = refl
be_low (suc n) k x =
    let e : k * 256 ^ suc n ≡ k * 256 * 256 ^ n = ap (λ (m : ℕ). k * m) (pow-suc 256 n ∙ mul_comm (256 ^ n) 256) ∙ sym (mul_assoc k 256 (256 ^ n)) in
    let digit : (k * 256 * 256 ^ n + x) / 256 ^ n % 256 ≡ x / 256 ^ n % 256 = rw (mul-add-div_right (power n) (k * 256) x) (omega arith) in
    rw e (λ i. digit i ∷ be_low n (k * 256) x i)

-- bytes, as a number and as bytes again
pub be_of_be : (l : List ℕ) → AllBytes l → be (length l) (of_be l) ≡ l
unfolding be of_be
be_of_be [] h = refl
be_of_be (b ∷ l) h =
    let rest : of_be l < 256 ^ length l = of_be_lt l (λ i. h (suc i)) in
    let first : (b * 256 ^ length l + of_be l) / 256 ^ length l % 256 ≡ b =
    rw (mul-add-div_right (power (length l)) b (of_be l), div-eq_of_lt rest, add-zero b) (mod-eq_of_lt (h 0)) in
    λ i. first i ∷ (be_low (length l) b (of_be l) ∙ be_of_be l (λ j. h (suc j))) i

-- eight of a digest's bytes
be_part : (d : List ℕ) (p : ℕ) → p + 8 ≤ length d → AllBytes d → be 8 (of_be (bytes_at d p 8)) ≡ bytes_at d p 8
be_part d p h a =
    ap (λ (n : ℕ). be n (of_be (bytes_at d p 8))) (sym (length_bytes_at d p 8 h)) ∙ be_of_be (bytes_at d p 8) (bytes_part d p 8 a)

digest_whole : (d : List ℕ) → length d ≡ 32 → bytes_at d 0 8 ++ bytes_at d 8 8 ++ bytes_at d 16 8 ++ bytes_at d 24 8 ≡ d
unfolding bytes_at
digest_whole d h =
    rw (← bytes_at_add d 0 8 8, ← bytes_at_add d 0 16 8, ← bytes_at_add d 0 24 8) (ap (λ (n : ℕ). take n d) (sym h) ∙ take-length d)

pub digest_back : (d : List ℕ) → length d ≡ 32 → AllBytes d
    → be 8 (of_be (bytes_at d 0 8)) ++ be 8 (of_be (bytes_at d 8 8)) ++ be 8 (of_be (bytes_at d 16 8)) ++ be 8 (of_be (bytes_at d 24 8)) ≡ d
digest_back d h a =
    rw (be_part d 0 (omega arith) a, be_part d 8 (omega arith) a, be_part d 16 (omega arith) a, be_part d 24 (omega arith) a) (digest_whole d h)

-- ---- A reference

pub reference_back : (r : BlockReference) → Digested r → reference_of (key_words r) ≡ r
unfolding reference_at digest_at key_words digest_words
reference_back r h = λ i. record { authority = r.authority; round = r.round; digest = record { 0 = digest_back r.digest.0 h.as_long h.bytes i } }

-- a number below 2 ^ 64, as bytes and as a number again
of_be_be : (n x : ℕ) → of_be (be n x) ≡ x % 256 ^ n
unfolding be of_be
of_be_be zero x = sym (mod-one x)
of_be_be (suc n) x =
    rw (length_be n x, of_be_be n x) (sym (ap (λ (m : ℕ). x % m) (pow-succ' 256 n) ∙ mod-mul x (lit< tt) (power n)))

word_back : (x : ℕ) → x < 2 ^ 64 → of_be (be 8 x) ≡ x
word_back x h = of_be_be 8 x ∙ mod-eq_of_lt h

-- the key of the reference that words stand for is the words: a lookup by reference takes the rows that begin with them
pub key_back : (w : List ℕ) → ((i : ℕ) → get_or w i 0 < 2 ^ 64) → key_words (reference_of w) ≡ words_at w 0 6
unfolding key_words digest_words reference_at digest_at be bytes_at words_at
key_back w h =
    λ i.
    get_or w 0 0
    ∷ get_or w 1 0
    ∷ word_back (get_or w 2 0) (h 2) i
    ∷ word_back (get_or w 3 0) (h 3) i
    ∷ word_back (get_or w 4 0) (h 4) i
    ∷ word_back (get_or w 5 0) (h 5) i
    ∷ []

-- ---- A store

-- words behind another
words_at_behind : (x : ℕ) (w : List ℕ) (p n : ℕ) → words_at (x ∷ w) (suc p) n ≡ words_at w p n
unfolding words_at
words_at_behind x w p zero = refl
words_at_behind x w p (suc n) = ap (λ (l : List ℕ). get_or w p 0 ∷ l) (words_at_behind x w (suc p) n)

-- the words l, which stand between others
words_at_between : (p l rest : List ℕ) → words_at (p ++ (l ++ rest)) (length p) (length l) ≡ l
unfolding words_at
words_at_between [] [] rest = refl
words_at_between [] (x ∷ l) rest =
    ap (λ (k : List ℕ). x ∷ k) (words_at_behind x (l ++ rest) 0 (length l) ∙ words_at_between [] l rest)
words_at_between (x ∷ p) l rest = words_at_behind x (p ++ (l ++ rest)) (length p) (length l) ∙ words_at_between p l rest

-- a last own block has a digest of 32 bytes
abbrev pub OwnDigested : Option BlockReference → Type 0
OwnDigested None = Unit {0}
OwnDigested (Some r) = Digested r

module _ (size own rows loads highest : ℕ) (seen : List ℕ) (long : length seen ≡ 128) (rest : List ℕ) where
  abbrev store : Option BlockReference → BlockStore
  store f =
      record {
        committee_size = size;
        authority = own;
        rows = rows;
        loads = loads;
        summary = record { highest_round = highest; last_seen_by_authority = seen; last_own_block = f };
      }

  seen_back : (p : List ℕ) → length p ≡ 12 → words_at (p ++ (seen ++ rest)) 12 128 ≡ seen
  seen_back p twelve =
      ap₂ (λ (n m : ℕ). words_at (p ++ (seen ++ rest)) n m) (sym twelve) (sym long) ∙ words_at_between p seen rest

  by_own_block : (f : Option BlockReference) → OwnDigested f → store_of (store_words (store f) ++ rest) ≡ store f
  unfolding store_of summary_in flagged pick reference_at digest_at store_words summary_words found_words key_words digest_words
  by_own_block None digested =
      λ i.
      record {
        committee_size = size;
        authority = own;
        rows = rows;
        loads = loads;
        summary =
            record {
              highest_round = highest;
              last_seen_by_authority = seen_back (take 12 (store_words (store None))) refl i;
              last_own_block = None;
            };
      }
  by_own_block (Some r) digested =
      λ i.
      record {
        committee_size = size;
        authority = own;
        rows = rows;
        loads = loads;
        summary =
            record {
              highest_round = highest;
              last_seen_by_authority = seen_back (take 12 (store_words (store (Some r)))) refl i;
              last_own_block =
                  Some
                  (record {
                    authority = r.authority;
                    round = r.round;
                    digest = record { 0 = digest_back r.digest.0 digested.as_long digested.bytes i };
                  });
            };
      }

  -- and where six words that say nothing stand in the reference's place
  without_own_block : (a b c d e f : ℕ)
      → store_of (size ∷ own ∷ rows ∷ loads ∷ 0 ∷ a ∷ b ∷ c ∷ d ∷ e ∷ f ∷ highest ∷ (seen ++ rest)) ≡ store None
  unfolding store_of summary_in flagged pick
  without_own_block a b c d e f =
      λ i.
      record {
        committee_size = size;
        authority = own;
        rows = rows;
        loads = loads;
        summary =
            record {
              highest_round = highest;
              last_seen_by_authority =
                  seen_back (size ∷ own ∷ rows ∷ loads ∷ 0 ∷ a ∷ b ∷ c ∷ d ∷ e ∷ f ∷ highest ∷ []) refl i;
              last_own_block = None;
            };
      }

module _ (size own rows loads highest : ℕ) (seen : List ℕ) (long : length seen ≡ 128) (w : List ℕ) where
  by_kept : (f : Option BlockReference) → OwnDigested f
      → store_of (reference_kept (words_at w 5 6) f (store_words (store size own rows loads highest seen long [] f)))
      ≡ store size own rows loads highest seen long [] f
  unfolding reference_kept words_at store_words summary_words found_words
  by_kept None digested =
      ap store_of
      (clipped_fits (store_words (store size own rows loads highest seen long [] None)) 5 (words_at w 5 6) (omega (arith, long))
      ∙ ap
      (λ (l : List ℕ). size ∷ own ∷ rows ∷ loads ∷ 0 ∷ get_or w 5 0 ∷ get_or w 6 0 ∷ get_or w 7 0 ∷ get_or w 8 0 ∷ get_or w 9 0 ∷ get_or w 10 0 ∷ highest ∷ l)
      (sym (append-nil seen)))
      ∙ without_own_block size own rows loads highest seen long [] (get_or w 5 0) (get_or w 6 0) (get_or w 7 0) (get_or w 8 0) (get_or w 9 0) (get_or w 10 0)
  by_kept (Some r) digested =
      ap store_of (sym (append-nil (store_words (store size own rows loads highest seen long [] (Some r)))))
      ∙ by_own_block size own rows loads highest seen long [] (Some r) digested

module _ (s : BlockStore) (rounds : length s.summary.last_seen_by_authority ≡ 128) where
  module _ (own : OwnDigested s.summary.last_own_block) where
    -- The store that the words stand for that a call leaves is the one that it leaves, whatever words it was lent.
    pub store_left : (w : List ℕ) → store_of (store_after w (Some s)) ≡ s
    unfolding store_after
    store_left w =
        by_kept s.committee_size s.authority s.rows s.loads s.summary.highest_round s.summary.last_seen_by_authority rounds w
        s.summary.last_own_block own

    -- the store that a store's words stand for, whatever stands behind them
    pub store_behind : (rest : List ℕ) → store_of (store_words s ++ rest) ≡ s
    store_behind rest =
        by_own_block s.committee_size s.authority s.rows s.loads s.summary.highest_round s.summary.last_seen_by_authority rounds rest
        s.summary.last_own_block own

    pub store_back : store_of (store_words s) ≡ s
    store_back = ap store_of (sym (append-nil (store_words s))) ∙ store_behind []

-- the words behind others
words_at_skip : (p w : List ℕ) {m : ℕ} (q n : ℕ) → length p ≡ m → words_at (p ++ w) (m + q) n ≡ words_at w q n
words_at_skip p w q n e = ap (λ (k : ℕ). words_at (p ++ w) (k + q) n) (sym e) ∙ by p
  where
    by : (p : List ℕ) → words_at (p ++ w) (length p + q) n ≡ words_at w q n
    by [] = ap (λ (k : ℕ). words_at w k n) (zero-add q)
    by (x ∷ p) =
        ap (λ (k : ℕ). words_at (x ∷ (p ++ w)) k n) (suc-add (length p) q) ∙ words_at_behind x (p ++ w) (length p + q) n ∙ by p

words_at_all : (l : List ℕ) → words_at l 0 (length l) ≡ l
words_at_all l = ap (λ (w : List ℕ). words_at w 0 (length l)) (sym (append-nil l)) ∙ words_at_between [] l []

first_word : {x y : ℕ} → ◌≡◌ {A = List ℕ} (x ∷ []) (y ∷ []) → x ≡ y
first_word e = ap (λ (l : List ℕ). get_or l 0 0) e

-- the number, the index rows counted and the summary, among the words of recovery's answer
module _ (r : Recovered) where
  number_there : get_or (recovered_words r) 0 0 ≡ number_at r.walked
  unfolding recovered_words head_words walked_words number_at
  number_there = by r.walked _ _
    where
      by : (w : Result Walked RefusedAt) (counts rest : List ℕ) → get_or ((walked_words w ++ counts) ++ rest) 0 0 ≡ number_at w
      by (Ok w) counts rest = refl
      by (Err at) counts rest = refl

  index_there : get_or (recovered_words r) 8 0 ≡ r.replay.blocks.index
  unfolding recovered_words head_words words_at
  index_there =
      ap (λ (l : List ℕ). get_or l 8 0) (append_assoc (walked_words r.walked) _ _)
      ∙ first_word (words_at_skip (walked_words r.walked) _ 3 1 (long_walked r.walked))

  summary_there : length r.replay.blocks.summary.last_seen_by_authority ≡ 128
      → words_at (recovered_words r) 25 136 ≡ summary_words r.replay.blocks.summary
  unfolding recovered_words
  summary_there rounds =
      let t = r.replay in
      let long = summary_long t.blocks.summary rounds in
      words_at_skip (head_words r) _ 16 136 (long_head r)
      ∙ words_at_skip (span_words t.last_own_block) _ 13 136 (long_span t.last_own_block)
      ∙ words_at_skip (span_words t.state) _ 10 136 (long_span t.state)
      ∙ words_at_skip (span_words t.committed_state) _ 7 136 (long_span t.committed_state)
      ∙ words_at_skip (found_words t.last_committed_leader) _ 0 136 (long_found t.last_committed_leader)
      ∙ ap (words_at (summary_words t.blocks.summary) 0) (sym long)
      ∙ words_at_all (summary_words t.blocks.summary)

-- The words of a store that is opened from recovery's answer are those of the store that `opened_of` gives.
pub opened_store : (size own : ℕ) (r : Recovered) → length r.replay.blocks.summary.last_seen_by_authority ≡ 128
    → opened_words size own (recovered_words r) ≡ store_words (opened_of size own r.replay)
unfolding opened_words opened_of store_words
opened_store size own r rounds = λ i. size ∷ own ∷ index_there r i ∷ 0 ∷ summary_there r rounds i

-- what `kadzhomir_open` and `kadzhomir_writer` make of the words is what `BlockStore::open` and `Recovered::writer` make of the answer
module _ (r : Recovered) where
  number_told : recovery_number (recovered_words r) ≡ number_at r.walked
  unfolding recovery_number number_at pick
  number_told = by r.walked (number_there r)
    where
      by : (w : Result Walked RefusedAt) {v : ℕ} → v ≡ number_at w → pick (leb v 19) v 18 ≡ number_at w
      by (Ok w) e = rw e refl
      by (Err at) e = rw (e, le-leb (number at.refusal) 19 (number_most at.refusal)) refl

  pub opened_number_lem : (size own : ℕ) → opened_number size own (recovered_words r) ≡ number_of (opened size own r)
  unfolding opened_number opened_by number_at number_of
  opened_number_lem size own =
      ap (λ (n : ℕ). unless n (λ m. m) (committee_check size own)) number_told ∙ by r.walked
    where
      by : (w : Result Walked RefusedAt) → unless (number_at w) (λ m. m) (committee_check size own) ≡ number_of (opened_by size own w r.replay)
      by (Ok w) =
          unless_passed (λ (m : ℕ). m) (committee_check size own) 0 refl
          ∙ sym (unless_number (committee_check size own) (opened_of size own r.replay) (committee_tabled size own))
      by (Err at) = unless_refused (λ (m : ℕ). m) (committee_check size own) (number at.refusal) (λ z. omega (arith, z, positive_number at.refusal))

  pub resumed_used_lem : (k used : ℕ) {w : WalWriter} → resumed_of k r ≡ Ok w → resumed_used (recovered_words r) used ≡ w.used
  unfolding resumed_used recovered_words head_words walked_words number_at writer_behind
  resumed_used_lem k used {w} is =
      ap (λ (n : ℕ). unless n (λ m. used) (get_or (recovered_words r) 3 0)) number_told
      ∙ by r.walked _ _ is
    where
      by : (v : Result Walked RefusedAt) (counts rest : List ℕ) → writer_behind k v ≡ Ok w
          → unless (number_at v) (λ m. used) (get_or ((walked_words v ++ counts) ++ rest) 3 0) ≡ w.used
      by (Ok v) counts rest is =
          let same : record { exponent = k; used = v.end.0 } ≡ w = cc in
          unless_passed (λ (m : ℕ). used) v.end.0 0 refl ∙ ap (λ (x : WalWriter). x.used) same
      by (Err at) counts rest is = absurd (cc)

-- `kadzhomir_open` after `kadzhomir_recover`
pub opened_recovered : (size used own : ℕ) (x : Recovery)
    → opened_words size own (recovered_words (recovered_of used own x)) ≡ store_words (opened_of size own (recovered_of used own x).replay)
opened_recovered size used own x = opened_store size own (recovered_of used own x) (rounds_long_lem used own x)
