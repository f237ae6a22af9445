-- Cleanup. Document 01, "Lookups".
use Rattle.std.specs.Prelude.{List, [], ◌∷◌, map, ℕ, suc, leb, eqb, length, get_or, set, Result, Ok}
use Rattle.laws.specs.Pick.{pick}
use Rattle.laws.specs.Bytes.{written}
use Rattle.refusal.specs.declared.Refusal.{Refusal}
use Rattle.refusal.specs.Refusals.{as_refused}
use Rattle.wal_position.specs.Checks.{unless}
use Rattle.rows.specs.Rows.{flat}
use Rattle.store.specs.declared.BlockStore.{BlockStore}
use Rattle.store.specs.Store.{indexed, call_check, loaded}

-- "Cleanup at t unloads rounds ≤ t and counts those that were loaded; t = 0 does nothing."
unfoldable pub unload : ℕ → List ℕ → List ℕ
unload t r = pick (leb (get_or r 0 0) t) (set r 7 0) r

unfoldable pub unloads : ℕ → List (List ℕ) → ℕ
unloads t [] = 0
unloads t (r ∷ rows) = pick (leb (get_or r 0 0) t) (pick (loaded r) (suc (unloads t rows)) (unloads t rows)) (unloads t rows)

unfoldable pub clean_answer : ℕ → ℕ → List (List ℕ) → Result ℕ Refusal
clean_answer n t rows = unless n as_refused (Ok (pick (eqb t 0) 0 (unloads t rows)))

-- "a refused cleanup changes nothing"; rows past the count stay
unfoldable pub clean_index : ℕ → ℕ → List (List ℕ) → List ℕ → List ℕ
clean_index n t rows index = unless n (λ m. index) (pick (eqb t 0) index (written index 0 (flat (map (unload t) rows))))

-- the call: k, the image and used, the store and its index, and its round t
abbrev pub cleanup_answer : ℕ → List ℕ → ℕ → BlockStore → List ℕ → ℕ → Result ℕ Refusal
cleanup_answer k image used store index t = clean_answer (call_check k used (length image) store index) t (indexed store index)

abbrev pub cleanup_index : ℕ → List ℕ → ℕ → BlockStore → List ℕ → ℕ → List ℕ
cleanup_index k image used store index t = clean_index (call_check k used (length image) store index) t (indexed store index) index
