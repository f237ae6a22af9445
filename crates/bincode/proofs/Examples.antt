-- Worked examples of bincode's rules, computed. Assumes nothing.
use mathlib.Core.Path.{◌≡◌, refl}
use mathlib.Core.Bool.{true}
use mathlib.Core.List.{[], ◌∷◌, ◌++◌}
use mathlib.Core.Option.{none, some}
use lib.ListN.{replicate}
use Rattle.laws.specs.Pick.{pick}
use Rattle.laws.specs.Bytes.{bytes_at, le, of_le}
use Rattle.laws.specs.Parse.{bad, got, then, raw, number, many}
use Rattle.bincode.specs.Bincode.{bool, option, option_bytes, bool_bytes, vec, byte_string, exactly}

-- a bool is 0 or 1: a byte 2 is none; what follows the byte is ignored
bool_bytes_lem : (bool (1 ∷ 9 ∷ 9 ∷ []) 0 ≡ got true 1) × (bool (2 ∷ []) 0 ≡ bad) × (bool [] 0 ≡ bad)
unfolding bool number raw then pick bytes_at of_le
bool_bytes_lem = (refl, refl, refl)

-- so with an option's tag; behind a 1 stands the value
option_bytes_lem : (option (number 2) (1 ∷ 5 ∷ 1 ∷ []) 0 ≡ got (some 261) 3)
    × (option (number 2) (0 ∷ 5 ∷ 1 ∷ []) 0 ≡ got none 1)
    × (option (number 2) (2 ∷ 5 ∷ 1 ∷ []) 0 ≡ bad)
    × (option_bytes (le 2) (some 261) ≡ 1 ∷ 5 ∷ 1 ∷ [])
unfolding option option_bytes bool bool_bytes number raw then pick bytes_at of_le le
option_bytes_lem = (refl, refl, refl, refl)

-- a count has 8 bytes and bounds what is read, from any place on
string_bytes : (byte_string (7 ∷ 2 ∷ 0 ∷ 0 ∷ 0 ∷ 0 ∷ 0 ∷ 0 ∷ 0 ∷ 104 ∷ 105 ∷ 33 ∷ []) 1 ≡ got (104 ∷ 105 ∷ []) 11)
    × (byte_string (3 ∷ 0 ∷ 0 ∷ 0 ∷ 0 ∷ 0 ∷ 0 ∷ 0 ∷ 104 ∷ 105 ∷ []) 0 ≡ bad)
    × (exactly 3 (2 ∷ 0 ∷ 0 ∷ 0 ∷ 0 ∷ 0 ∷ 0 ∷ 0 ∷ 104 ∷ 105 ∷ 33 ∷ []) 0 ≡ bad)
unfolding byte_string exactly number raw then pick bytes_at of_le
string_bytes = (refl, refl, refl)

-- the largest count is refused at the first element that is not there
largest_count : vec (number 1) (replicate 8 255 ++ 1 ∷ 2 ∷ []) 0 ≡ bad
unfolding vec many number raw then pick bytes_at of_le
largest_count = refl
