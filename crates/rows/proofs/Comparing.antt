-- The loop that compares the key of a row with k word by word, at word j. Assumes nothing.
use mathlib.Core.Path.{◌≡◌, refl, sym, ◌∙◌}
use mathlib.Core.List.{List, ◌∷◌}
use Prim.Native.Nat.{ℕ, suc, ◌+◌, ◌≤◌, ◌<◌}
use native.Mathlib.Numerals.{add-one}
use native.Mathlib.Omega.{arith}
use lib.ListN.{length, drop, get_or, drop_of_length-le}
use lib.Seq.{drop-cons, get_or-take, length-take-le}
use Rattle.std.specs.declared.cmp.Ordering.TheVariants.{Less, Equal, Greater}
use Rattle.rows.specs.Rows.{key, compared}
use Rattle.rows.proofs.Lexicographic.{first_below, first_above, first_same}

-- the words before j are the same: what is left decides
pub record Comparing (row k : List ℕ) (j : ℕ) : Type 0 where
  pub same : compared (key row) k ≡ compared (drop j (key row)) (drop j k)

pub comparing_start : (row k : List ℕ) → Comparing row k 0
comparing_start row k = record { same = refl }

module _ {row k : List ℕ} {j : ℕ} (h : Comparing row k j) (fits : 6 ≤ length row) (six : length k ≡ 6) where
  six_words : length (key row) ≡ 6
  unfolding key
  six_words = length-take-le 6 row fits

  module _ (more : j < 6) where
    word : get_or (key row) j 0 ≡ get_or row j 0
    unfolding key
    word = get_or-take 6 row j 0 more

    heads : compared (key row) k ≡ compared (get_or row j 0 ∷ drop (suc j) (key row)) (get_or k j 0 ∷ drop (suc j) k)
    heads =
        let in_key : j < length (key row) = omega (arith, six_words) in
        let in_k : j < length k = omega arith in
        h.same ∙ rw (drop-cons (key row) j 0, drop-cons k j 0, word)

    pub comparing_below : get_or row j 0 < get_or k j 0 → Less ≡ compared (key row) k
    comparing_below l =
        sym (heads ∙ first_below (get_or row j 0) (get_or k j 0) (drop (suc j) (key row)) (drop (suc j) k) l)

    pub comparing_above : get_or k j 0 < get_or row j 0 → Greater ≡ compared (key row) k
    comparing_above g =
        sym (heads ∙ first_above (get_or row j 0) (get_or k j 0) (drop (suc j) (key row)) (drop (suc j) k) g)

    pub comparing_next : get_or k j 0 ≤ get_or row j 0 → get_or row j 0 ≤ get_or k j 0 → Comparing row k (j + 1)
    comparing_next l g =
        record {
          same =
              rw add-one
              (heads ∙ first_same (get_or row j 0) (get_or k j 0) (drop (suc j) (key row)) (drop (suc j) k) (omega arith));
        }

  pub comparing_done : 6 ≤ j → Equal ≡ compared (key row) k
  unfolding compared
  comparing_done all =
      sym (
      h.same
      ∙ rw (drop_of_length-le (key row) {i = j} (omega (arith, six_words)), drop_of_length-le k {i = j} (omega arith))
      )
