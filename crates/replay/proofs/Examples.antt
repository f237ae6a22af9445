-- The small examples of the refusal table's rows 8 to 15, and the mistakes that document 01 names, computed. Assumes nothing.
use mathlib.Core.Path.{◌≡◌, refl}
use mathlib.Core.Bool.{false}
use mathlib.Core.List.{List, [], ◌∷◌, ◌++◌, map}
use Prim.Native.Nat.{ℕ, ◌^◌, ◌-◌}
use lib.ListN.{set}
use Rattle.laws.specs.Pick.{pick}
use Rattle.laws.specs.Bytes.{bytes_at, zeros, le, of_le}
use Rattle.laws.specs.Parse.{then, raw, number, many, joined, answer}
use Rattle.bincode.specs.Bincode.{bool, bool_bytes, vec, vec_bytes, byte_string, byte_string_bytes, exactly}
use Rattle.crypto.specs.Records.{digest, digest_bytes, signature, signature_bytes}
use Rattle.types.specs.declared.BlockReference.{BlockReference}
use Rattle.types.specs.Records.{reference, reference_bytes, statement, block, block_bytes, payload}
use Rattle.commits.specs.Records.{own_block, own_block_bytes, commit_data, commit}
use Rattle.wal_position.specs.Checks.{unless}
use Rattle.wal_reader.specs.Entries.{Entry}
use Rattle.wal.specs.Walk.{END}
use Rattle.rows.specs.Rows.{compared, choose}
use Rattle.replay.specs.Items.{classify, ReplayEntry, block_in}
use Rattle.replay.specs.Rules.{last_of, gather, keeps_pending, all_keep_pending, can_be_pending, pending, state_in, state_of, after_state, blocks_in, blocks, unprocessed, sort_key, insert, set_of, commits_in, commits, committed, latest, index}
use Rattle.index.specs.Keys.{of_be, digest_words}
use Rattle.replay.specs.Recovery.{Lent, Recovery, refused, recovered, has_block_in, block_check, rows_check, entry_check, Scanned, scan, scanned, refused_at, bad_payload, decoded}

ref : ℕ → ℕ → BlockReference
ref authority round = record { authority = authority; round = round; digest = record { 0 = zeros 32 } }

block_of_round : ℕ → ℕ → List ℕ
block_of_round authority round =
    block_bytes (record {
      reference = ref authority round;
      includes = [];
      statements = [];
      time_low = 0;
      time_high = 0;
      epoch_marker = false;
      signature = record { 0 = zeros 64 };
    })

at : ℕ → ℕ → List ℕ → Entry
at start tag bytes = record { start = start; tag = tag; payload = bytes }

own : ℕ → ℕ → ℕ → Entry
own start next round = at start 3 (le 8 next ++ block_of_round 0 round)

eight_rows : Lent
eight_rows = record { pending = 8; unprocessed = 8; committed = 8; index = 8 }

-- a committee of 4, own authority 0
scanned_by : List Entry → Scanned
scanned_by entries = scan 4 0 eight_rows [] entries

starts : Scanned → List ℕ
starts (scanned l) = map (λ (x : ReplayEntry). x.entry.start) (pending l)
starts (refused_at n p) = []

recovery : Scanned → List ℕ
recovery (refused_at n p) = n ∷ p ∷ []
recovery (scanned l) = number_of (decoded END 0 l)
  where
    number_of : Recovery → List ℕ
    number_of (refused n p) = n ∷ p ∷ []
    number_of (recovered w e l) = 0 ∷ []

-- what the refusal table's small examples give: number and start
answers : List (List ℕ)
answers =
    -- 8: tag 6
    recovery (scanned_by (at 0 6 [] ∷ []))
    -- 9: epoch marker byte 2
    ∷ recovery (scanned_by (at 0 1 (set (block_of_round 1 1) 88 2) ∷ []))
    -- 10: 7 bytes
    ∷ recovery (scanned_by (at 0 3 (zeros 7) ∷ []))
    -- 11: 7 bytes, no own block after; and none where an own block drops it
    ∷ recovery (scanned_by (at 0 2 (zeros 7) ∷ []))
    ∷ recovery (scanned_by (at 0 2 (zeros 7) ∷ own 64 64 1 ∷ []))
    -- 12: empty payload
    ∷ recovery (scanned_by (at 0 5 [] ∷ []))
    -- 13: authority 4 of 4
    ∷ recovery (scanned_by (at 0 1 (block_of_round 4 1) ∷ []))
    -- 14: own round 3 twice, from tag 3 and tag 1
    ∷ recovery (scanned_by (own 0 0 3 ∷ at 256 1 (block_of_round 0 3) ∷ []))
    -- 15: 3 unprocessed, 2 rows; a state entry between frees them
    ∷ recovery (scan 4 0 (record { pending = 8; unprocessed = 2; committed = 8; index = 8 }) []
    (at 0 1 (block_of_round 1 1) ∷ at 256 1 (block_of_round 2 1) ∷ at 512 1 (block_of_round 3 1) ∷ []))
    ∷ recovery (scan 4 0 (record { pending = 8; unprocessed = 2; committed = 8; index = 8 }) []
    (at 0 1 (block_of_round 1 1) ∷ at 256 1 (block_of_round 2 1) ∷ at 500 4 [] ∷ at 512 1 (block_of_round 3 1) ∷ []))
    ∷ []

rows_8_to_15 : answers
    ≡ (8 ∷ 0 ∷ []) ∷ (9 ∷ 0 ∷ []) ∷ (10 ∷ 0 ∷ []) ∷ (11 ∷ 0 ∷ []) ∷ (0 ∷ []) ∷ (12 ∷ 0 ∷ []) ∷ (13 ∷ 0 ∷ []) ∷ (14 ∷ 256 ∷ []) ∷ (15 ∷ 512 ∷ []) ∷ (0 ∷ []) ∷ []
unfolding answers recovery scanned_by eight_rows own at block_of_round ref pick bytes_at zeros le of_le then raw number many joined answer bool bool_bytes vec vec_bytes byte_string byte_string_bytes exactly digest digest_bytes signature signature_bytes reference reference_bytes statement block block_bytes payload own_block own_block_bytes commit_data commit unless compared choose classify block_in last_of gather keeps_pending all_keep_pending can_be_pending pending state_in state_of after_state blocks_in blocks unprocessed sort_key insert set_of commits_in commits committed latest index has_block_in block_check rows_check entry_check scan bad_payload decoded
rows_8_to_15 = refl

-- "cutting pending with > instead of ≥" is a mistake: next entry 64 keeps the payload at 64, and MAX keeps none
kept : (starts (scanned_by (at 0 2 (zeros 8) ∷ at 64 2 (zeros 8) ∷ own 128 64 1 ∷ at 512 2 (zeros 8) ∷ [])) ≡ 64 ∷ 512 ∷ [])
    × (starts (scanned_by (at 0 2 (zeros 8) ∷ own 128 (2 ^ 64 - 1) 1 ∷ [])) ≡ [])
unfolding starts scanned_by eight_rows own at block_of_round ref pick bytes_at zeros le of_le then raw number many joined answer bool bool_bytes vec vec_bytes byte_string byte_string_bytes exactly digest digest_bytes signature signature_bytes reference reference_bytes statement block block_bytes payload own_block own_block_bytes commit_data commit unless compared choose classify block_in last_of gather keeps_pending all_keep_pending can_be_pending pending state_in state_of after_state blocks_in blocks unprocessed sort_key insert set_of commits_in commits committed latest index has_block_in block_check rows_check entry_check scan bad_payload decoded
kept = (refl, refl)

-- a digest's first byte is the most significant of its first word, its last the least significant of its fourth
ends : digest_words (set (set (zeros 32) 0 1) 31 2) ≡ 2 ^ 56 ∷ 0 ∷ 0 ∷ 2 ∷ []
unfolding digest_words of_be bytes_at zeros
ends = refl
