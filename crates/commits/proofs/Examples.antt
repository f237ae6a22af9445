-- Worked examples of own blocks and commits, computed. Assumes nothing.
use mathlib.Core.Path.{◌≡◌, refl}
use mathlib.Core.List.{List, [], ◌∷◌, ◌++◌}
use Prim.Native.Nat.{ℕ}
use lib.ListN.{replicate}
use Rattle.laws.specs.Pick.{pick}
use Rattle.laws.specs.Bytes.{bytes_at, le, of_le}
use Rattle.laws.specs.Parse.{bad, got, then, raw, number, many, joined}
use Rattle.bincode.specs.Bincode.{vec, vec_bytes, byte_string, byte_string_bytes, exactly}
use Rattle.crypto.specs.Records.{digest, digest_bytes}
use Rattle.types.specs.declared.BlockReference.{BlockReference}
use Rattle.types.specs.Records.{reference, reference_bytes}
use Rattle.commits.specs.Records.{own_block, CommitsValue, commit_data, commit_data_bytes, commit, commit_bytes}

-- a number of 8 bytes that is below 256
small : ℕ → List ℕ
small n = n ∷ replicate 7 0

leader : BlockReference
leader = record { authority = 2; round = 5; digest = record { 0 = replicate 32 7 } }

leader_bytes : List ℕ
leader_bytes = small 2 ++ small 5 ++ small 32 ++ replicate 32 7

one : CommitsValue
one = record { commits = record { leader = leader; sub_dag = leader ∷ [] } ∷ []; state = 9 ∷ 9 ∷ [] }

-- one commit whose sub-dag is its leader, and a state of two bytes; an empty payload and an own block of 7 bytes are bad
a_commit : (commit (small 1 ++ leader_bytes ++ small 1 ++ leader_bytes ++ small 2 ++ (9 ∷ 9 ∷ 1 ∷ [])) 0 ≡ got one 138)
    × (commit_bytes one ≡ small 1 ++ leader_bytes ++ small 1 ++ leader_bytes ++ small 2 ++ (9 ∷ 9 ∷ []))
    × (commit [] 0 ≡ bad)
    × (own_block (replicate 7 0) 0 ≡ bad)
unfolding one leader leader_bytes small own_block commit commit_bytes commit_data commit_data_bytes reference reference_bytes digest digest_bytes vec vec_bytes many joined exactly byte_string byte_string_bytes number raw then pick bytes_at of_le le
a_commit = (refl, refl, refl, refl)
