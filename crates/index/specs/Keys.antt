-- A reference as the six words that begin its row: round, authority, and the digest as four words, each of eight bytes with the first
-- most significant, so that the order of words is the order of bytes (the crate replay, proofs/Keys.antt, `key_order`).
use Rattle.std.specs.Prelude.{◌≡◌, Bool, true, false, List, [], ◌∷◌, ◌++◌, ℕ, ◌+◌, ◌*◌, ◌^◌, eqb, length, get_or}
use Rattle.laws.specs.Pick.{pick}
use Rattle.laws.specs.Bytes.{bytes_at, AllBytes}
use Rattle.types.specs.declared.BlockReference.{BlockReference}

-- the number whose bytes, the most significant first, are those of the list
unfoldable pub of_be : List ℕ → ℕ
of_be [] = 0
of_be (b ∷ bs) = b * 256 ^ length bs + of_be bs

-- a reference that was read from bytes: its digest is 32 of them
pub record Digested (r : BlockReference) : Type 0 where
  pub as_long : length r.digest.0 ≡ 32
  pub bytes : AllBytes r.digest.0

unfoldable pub digest_words : List ℕ → List ℕ
digest_words d = of_be (bytes_at d 0 8) ∷ of_be (bytes_at d 8 8) ∷ of_be (bytes_at d 16 8) ∷ of_be (bytes_at d 24 8) ∷ []

unfoldable pub key_words : BlockReference → List ℕ
key_words r = r.round ∷ r.authority ∷ digest_words r.digest.0

-- an index row: the key, then the position of the block's entry, and 1 where the block is loaded
unfoldable pub index_row : BlockReference → ℕ → ℕ → List ℕ
index_row r position loaded = key_words r ++ (position ∷ loaded ∷ [])

-- whether one of the rows has this authority and round
unfoldable pub exists_at : ℕ → ℕ → List (List ℕ) → Bool
exists_at authority round [] = false
exists_at authority round (r ∷ rows) =
    pick (eqb (get_or r 1 0) authority)
    (pick (eqb (get_or r 0 0) round) true (exists_at authority round rows))
    (exists_at authority round rows)
