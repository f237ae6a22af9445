-- Cuts of small logs, computed. Assumes nothing.
use mathlib.Core.Path.{◌≡◌, refl}
use mathlib.Core.Bool.{false}
use mathlib.Core.List.{List, [], ◌∷◌, ◌++◌}
use Prim.Native.Nat.{ℕ}
use lib.ListN.{length}
use Rattle.laws.specs.Pick.{pick}
use Rattle.laws.specs.Bytes.{bytes_at, zeros, le, of_le}
use Rattle.laws.specs.Parse.{then, raw, number, many, joined, answer}
use Rattle.checksum.specs.Crc32 as crc
use Rattle.entry.specs.Entry.{entry_bytes, checksum_at, length_at, tag_at, payload_at}
use Rattle.bincode.specs.Bincode.{bool, bool_bytes, vec, vec_bytes, byte_string, byte_string_bytes, exactly}
use Rattle.crypto.specs.Records.{digest, digest_bytes, signature, signature_bytes}
use Rattle.types.specs.Records.{reference, reference_bytes, statement, block, block_bytes, payload}
use Rattle.commits.specs.Records.{own_block, own_block_bytes, commit_data, commit}
use Rattle.committee.specs.Committee.{committee_check}
use Rattle.wal_position.specs.Region.{region_start, next_region}
use Rattle.wal_position.specs.Checks.{log_check, unless}
use Rattle.wal_reader.specs.Entries.{end_of}
use Rattle.wal_reader.specs.Look.{announced, look_at}
use Rattle.wal.specs.Walk.{move, listing, move_at, follow, walk_at}
use Rattle.rows.specs.Rows.{compared, choose}
use Rattle.replay.specs.Items.{classify, block_in}
use Rattle.replay.specs.Rules.{last_of, gather, keeps_pending, all_keep_pending, can_be_pending, pending, state_in, state_of, after_state, blocks_in, blocks, unprocessed, sort_key, insert, set_of, commits_in, commits, committed, latest, index}
use Rattle.replay.specs.Recovery.{Lent, Recovery, refused, recovered, has_block_in, block_check, rows_check, entry_check, scan, bad_payload, decoded, replayed, recover}
use Rattle.durable.specs.Durable.{asks_for_rows, AfterCuts, one_cut, cut_from, cut_down}

eight_rows : Lent
eight_rows = record { pending = 8; unprocessed = 8; committed = 8; index = 8 }

-- a refusal's number and start; or E, and how many entries were read
told : Recovery → List ℕ
told (refused n p) = n ∷ p ∷ []
told (recovered w e l) = 0 ∷ e ∷ length l ∷ []

-- a committee of 4, own authority 0
recovery : ℕ → List ℕ → ℕ → List ℕ
recovery k image used = told (recover k image used 4 0 eight_rows)

-- the used at which the cuts end, and what recovery gives there
after_cuts : Lent → ℕ → List ℕ → ℕ → List ℕ
after_cuts lent k image used = shown (cut_down k image 4 0 lent used)
  where
    shown : AfterCuts → List ℕ
    shown x = x.used ∷ told x.answer

-- ---- A payload that an own block dropped, pending again

-- An empty state entry, at 0. Then at 16 and 39 payloads of 7 bytes, which do not decode, and at 62 an own block that drops the first
-- of them: its next entry is 39. At 247 too few bytes are left in the region; at 256 stands a header with a checksum and no length.
own_block_log : List ℕ
own_block_log =
    entry_bytes 4 []
    ++ entry_bytes 2 (zeros 7)
    ++ entry_bytes 2 (zeros 7)
    ++ entry_bytes 3
    (le 8 39
    ++ block_bytes (record {
      reference = record { authority = 0; round = 1; digest = record { 0 = zeros 32 } };
      includes = [];
      statements = [];
      time_low = 0;
      time_high = 0;
      epoch_marker = false;
      signature = record { 0 = zeros 64 };
    }))
    ++ zeros 9
    ++ 1 ∷ zeros 15

-- With all 272 bytes 5 refuses the header at 256. Cut there, 11 refuses the payload at 39, which the own block does not drop. That cut
-- takes the own block away, and the payload at 16 is pending again: 11 refuses it too. What is left is the state.
three_cuts : List ℕ → List (List ℕ)
three_cuts image = recovery 8 image 256 ∷ recovery 8 image 39 ∷ after_cuts eight_rows 8 image 272 ∷ []

three_cuts_lem : three_cuts own_block_log ≡ (11 ∷ 39 ∷ []) ∷ (11 ∷ 16 ∷ []) ∷ (16 ∷ 0 ∷ 16 ∷ 1 ∷ []) ∷ []
unfolding three_cuts recovery after_cuts told eight_rows own_block_log pick bytes_at zeros le of_le then raw number many joined answer crc.digits crc.number crc.plus crc.times crc.power crc.generator crc.reduce crc.remainder crc.message_bits crc.complement crc.crc32 entry_bytes checksum_at length_at tag_at payload_at bool bool_bytes vec vec_bytes byte_string byte_string_bytes exactly digest digest_bytes signature signature_bytes reference reference_bytes statement block block_bytes payload own_block own_block_bytes commit_data commit committee_check region_start next_region log_check unless end_of announced look_at move listing move_at follow walk_at compared choose classify block_in last_of gather keeps_pending all_keep_pending can_be_pending pending state_in state_of after_state blocks_in blocks unprocessed sort_key insert set_of commits_in commits committed latest index has_block_in block_check rows_check entry_check scan bad_payload decoded replayed recover asks_for_rows one_cut cut_from cut_down
three_cuts_lem = refl

-- ---- Small logs, with k = 6

-- an empty state entry, which ends at 16, and bytes behind it
behind_state : List ℕ → List ℕ
behind_state bytes = entry_bytes 4 [] ++ bytes

no_pending_row : Lent
no_pending_row = record { pending = 0; unprocessed = 8; committed = 8; index = 8 }

small_cases : List (List ℕ)
small_cases =
    -- L = 0, and no entry: 5 at 0
    after_cuts eight_rows 6 (1 ∷ zeros 15) 16
    -- a payload of 7 bytes at 16, and behind it an own block of 7: 10 at 39, then 11 at 16
    ∷ after_cuts eight_rows 6 (behind_state (entry_bytes 2 (zeros 7) ++ entry_bytes 3 (zeros 7))) 62
    -- an own block whose bytes were lost, so that zeros stand in their place up to the region's end: nothing is cut
    ∷ after_cuts eight_rows 6 (behind_state (zeros 48)) 64
    -- used within the padding before an entry at 64
    ∷ after_cuts eight_rows 6 (behind_state (zeros 48 ++ entry_bytes 4 [])) 40
    -- zeros are skipped up to 64, where the length is 15: 6 at 64, and with that used E is still 16
    ∷ after_cuts eight_rows 6 (behind_state (zeros 48 ++ zeros 8 ++ 15 ∷ zeros 7)) 80
    -- a payload at 16 that decodes, and no row for it: 15, and no cut
    ∷ after_cuts no_pending_row 6 (behind_state (entry_bytes 2 (zeros 8))) 40
    ∷ []

small : small_cases
    ≡ (0 ∷ 0 ∷ 0 ∷ 0 ∷ [])
    ∷ (16 ∷ 0 ∷ 16 ∷ 1 ∷ [])
    ∷ (64 ∷ 0 ∷ 16 ∷ 1 ∷ [])
    ∷ (40 ∷ 0 ∷ 16 ∷ 1 ∷ [])
    ∷ (64 ∷ 0 ∷ 16 ∷ 1 ∷ [])
    ∷ (40 ∷ 15 ∷ 16 ∷ [])
    ∷ []
unfolding after_cuts told eight_rows no_pending_row behind_state small_cases pick bytes_at zeros le of_le then raw number many joined answer crc.digits crc.number crc.plus crc.times crc.power crc.generator crc.reduce crc.remainder crc.message_bits crc.complement crc.crc32 entry_bytes checksum_at length_at tag_at payload_at bool bool_bytes vec vec_bytes byte_string byte_string_bytes exactly digest digest_bytes signature signature_bytes reference reference_bytes statement block block_bytes payload own_block own_block_bytes commit_data commit committee_check region_start next_region log_check unless end_of announced look_at move listing move_at follow walk_at compared choose classify block_in last_of gather keeps_pending all_keep_pending can_be_pending pending state_in state_of after_state blocks_in blocks unprocessed sort_key insert set_of commits_in commits committed latest index has_block_in block_check rows_check entry_check scan bad_payload decoded replayed recover asks_for_rows one_cut cut_from cut_down
small = refl
