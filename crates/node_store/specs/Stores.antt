-- The words of a store, which a caller keeps between calls, and the store and the reference that words stand for.
use Rattle.std.specs.Prelude.{Bool, not, List, [], ◌∷◌, ◌++◌, ℕ, zero, suc, ◌+◌, ◌/◌, ◌%◌, ◌^◌, leb, eqb, get_or, Option, Some, None}
use Rattle.laws.specs.Pick.{pick}
use Rattle.wal_position.specs.Checks.{unless}
use Rattle.committee.specs.Committee.{committee_check}
use Rattle.types.specs.declared.BlockReference.{BlockReference}
use Rattle.index.specs.declared.StoreSummary.{StoreSummary}
use Rattle.std.specs.Borrow.{Bor}
use Rattle.store.specs.declared.BlockStore.{BlockStore}
use Rattle.store.specs.declared.StoreView.{StoreView}
use Rattle.text.specs.Clipped.{clipped}
use Rattle.node_words.specs.Words.{summary_words}

-- 140 words: the committee's size, the own authority, the index rows counted, the loads, and the summary
unfoldable pub store_words : BlockStore → List ℕ
store_words s = s.committee_size ∷ s.authority ∷ s.rows ∷ s.loads ∷ summary_words s.summary

-- ---- What words stand for

-- the n words from index p on
unfoldable pub words_at : List ℕ → ℕ → ℕ → List ℕ
words_at w p zero = []
words_at w p (suc n) = get_or w p 0 ∷ words_at w (suc p) n

-- x as n bytes, the most significant first
unfoldable pub be : ℕ → ℕ → List ℕ
be zero x = []
be (suc n) x = x / 256 ^ n % 256 ∷ be n x

-- a flag is true where its word is not 0
unfoldable pub flagged : ℕ → Bool
flagged x = not (eqb x 0)

-- the digest in words 2 to 5 of those from index p on
unfoldable pub digest_at : List ℕ → ℕ → List ℕ
digest_at w p = be 8 (get_or w (p + 2) 0) ++ be 8 (get_or w (p + 3) 0) ++ be 8 (get_or w (p + 4) 0) ++ be 8 (get_or w (p + 5) 0)

-- the reference in the six words from index p on: what `key_words` puts there
unfoldable pub reference_at : List ℕ → ℕ → BlockReference
reference_at w p = record { authority = get_or w (p + 1) 0; round = get_or w p 0; digest = record { 0 = digest_at w p } }

abbrev pub reference_of : List ℕ → BlockReference
reference_of w = reference_at w 0

-- the summary and the store: what `store_words` puts there
unfoldable pub summary_in : List ℕ → StoreSummary
summary_in w =
    record {
      highest_round = get_or w 11 0;
      last_seen_by_authority = words_at w 12 128;
      last_own_block = pick (flagged (get_or w 4 0)) (Some (reference_at w 5)) None;
    }

unfoldable pub store_of : List ℕ → BlockStore
store_of w =
    record {
      committee_size = get_or w 0 0;
      authority = get_or w 1 0;
      rows = get_or w 2 0;
      loads = get_or w 3 0;
      summary = summary_in w;
    }

-- the same with the log and the index rows that a call is lent
abbrev pub viewed : ℕ → Bor (List ℕ) → ℕ → List ℕ → Bor (List ℕ) → StoreView
viewed k image used w index =
    record { log = record { exponent = k; image = image; used = used }; store = store_of w; index = index }

-- ---- The words that a call leaves

-- The words v of a store, put over the words that a call was lent: where there is no own block, the words of its reference, six from index 5
-- on, stay the lent ones, which are l.
unfoldable pub reference_kept : List ℕ → Option BlockReference → List ℕ → List ℕ
reference_kept l None v = clipped v 5 l
reference_kept l (Some r) v = v

-- after a call that leaves a store, and after one that leaves none, since it is refused: that one changes no word
unfoldable pub store_after : List ℕ → Option BlockStore → List ℕ
store_after w None = w
store_after w (Some s) = reference_kept (words_at w 5 6) s.summary.last_own_block (store_words s)

-- ---- What a recovery's answer leaves

-- The number in its words. A word above 19 is no number of a refusal, and comes from no recovery: 18.
unfoldable pub recovery_number : List ℕ → ℕ
recovery_number v = pick (leb (get_or v 0 0) 19) (get_or v 0 0) 18

-- "Appending again starts with used E": word 3. A refused recovery leaves `used` as it is.
unfoldable pub resumed_used : List ℕ → ℕ → ℕ
resumed_used v used = unless (recovery_number v) (λ m. used) (get_or v 3 0)

-- of the store that a recovery with the answer v leaves: the index rows counted are word 8, and the summary begins at word 25
unfoldable pub opened_words : ℕ → ℕ → List ℕ → List ℕ
opened_words size own v = size ∷ own ∷ get_or v 8 0 ∷ 0 ∷ words_at v 25 136

-- that of the recovery, then 18 for the committee
unfoldable pub opened_number : ℕ → ℕ → List ℕ → ℕ
opened_number size own v = unless (recovery_number v) (λ n. n) (committee_check size own)

-- a refusal leaves the words w that the store had before the call
unfoldable pub opened_after : ℕ → ℕ → List ℕ → List ℕ → List ℕ
opened_after size own v w = unless (opened_number size own v) (λ m. w) (opened_words size own v)
