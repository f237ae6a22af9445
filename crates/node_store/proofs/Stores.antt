-- The words of a store, and the store that words stand for. Assumes nothing.
use mathlib.Core.Path.{◌≡◌, refl, sym, ap, ap₂, ◌∙◌}
use mathlib.Core.List.{List, [], ◌∷◌, ◌++◌}
use Prim.Native.Nat.{ℕ, zero, suc, ◌+◌, ◌/◌, ◌%◌, ◌^◌, ◌<◌}
use native.Mathlib.Nat.{add-zero, zero-add, suc-add, add-suc, div-one}
use native.Mathlib.Omega.{arith}
use lib.ListN.{length, get_or, replicate, length-append, length-replicate}
use Rattle.std.specs.Int.{bytes_high_first}
use Rattle.laws.specs.Bytes.{written}
use Rattle.laws.proofs.Written.{then_written, written_whole}
use Rattle.text.specs.Clipped.{clipped}
use Rattle.store.specs.declared.BlockStore.{BlockStore}
use Rattle.node_words.specs.Words.{summary_words}
use Rattle.node_store.specs.Stores.{store_words, words_at, be, digest_at, opened_words}
use Rattle.node_words.proofs.Words.{behind}
use Rattle.node_words.proofs.Long.{summary_long}

-- ---- Words

pub length_words_at : (w : List ℕ) (p n : ℕ) → length (words_at w p n) ≡ n
unfolding words_at
length_words_at w p zero = refl
length_words_at w p (suc n) = ap suc (length_words_at w (suc p) n)

pub get_or_words_at : (w : List ℕ) (p n i : ℕ) → i < n → get_or (words_at w p n) i 0 ≡ get_or w (p + i) 0
unfolding words_at
get_or_words_at w p zero i h = absurd (omega arith)
get_or_words_at w p (suc n) zero h = ap (λ (q : ℕ). get_or w q 0) (sym (add-zero p))
get_or_words_at w p (suc n) (suc i) h =
    get_or_words_at w (suc p) n i (omega arith) ∙ ap (λ (q : ℕ). get_or w q 0) (suc-add p i ∙ sym (add-suc p i))

-- words in two parts
pub words_at_add : (w : List ℕ) (p m n : ℕ) → words_at w p (m + n) ≡ words_at w p m ++ words_at w (p + m) n
unfolding words_at
words_at_add w p zero n = rw (zero-add n, add-zero p)
words_at_add w p (suc m) n = rw (suc-add m n) (ap (λ (l : List ℕ). get_or w p 0 ∷ l) (words_at_add w (suc p) m n ∙ rw (suc-add p m, add-suc p m)))

-- n words from p on are known by each
pub words_at-by_each : (ys w : List ℕ) (p n : ℕ) → length ys ≡ n → ((k : ℕ) → k < n → get_or ys k 0 ≡ get_or w (p + k) 0) → ys ≡ words_at w p n
unfolding words_at
words_at-by_each [] w p zero l h = refl
words_at-by_each [] w p (suc n) l h = absurd (omega arith)
words_at-by_each (y ∷ ys) w p zero l h = absurd (omega arith)
words_at-by_each (y ∷ ys) w p (suc n) l h =
    ap₂ ◌∷◌ (h 0 (omega arith) ∙ ap (λ (q : ℕ). get_or w q 0) (add-zero p))
    (words_at-by_each ys w (suc p) n (omega arith) (λ k m. h (suc k) (omega arith) ∙ ap (λ (q : ℕ). get_or w q 0) (add-suc p k ∙ sym (suc-add p k))))

-- ---- A digest

-- the machine's bytes of a number, the most significant first
pub bytes_high_first-be : (n x : ℕ) → bytes_high_first n x ≡ be n x
unfolding be
bytes_high_first-be zero x = refl
bytes_high_first-be (suc zero) x = ap (λ (k : ℕ). k % 256 ∷ []) (sym (div-one x))
bytes_high_first-be (suc (suc n)) x = ap (λ (l : List ℕ). x / 256 ^ suc n % 256 ∷ l) (bytes_high_first-be (suc n) x)

pub length_be : (n x : ℕ) → length (be n x) ≡ n
unfolding be
length_be zero x = refl
length_be (suc n) x = ap suc (length_be n x)

-- eight bytes put behind those that are put already
bytes_put : (m : ℕ) (l : List ℕ) {o o' : List ℕ} (x : ℕ) → length l ≡ m → o ≡ written (replicate 32 0) 0 l → o' ≡ written o m (be 8 x)
    → o' ≡ written (replicate 32 0) 0 (l ++ be 8 x)
bytes_put m l x e f g =
    g
    ∙ ap (λ (d : List ℕ). written d m (be 8 x)) f
    ∙ then_written (replicate 32 0) 0 m l (be 8 x) (omega arith) (sym e ∙ sym (zero-add (length l)))

-- four words' bytes, put one behind the other, are the digest
pub digest_put : (w : List ℕ) (p : ℕ) {a b c d : List ℕ}
    → a ≡ written (replicate 32 0) 0 (be 8 (get_or w (p + 2) 0))
    → b ≡ written a 8 (be 8 (get_or w (p + 3) 0))
    → c ≡ written b 16 (be 8 (get_or w (p + 4) 0))
    → d ≡ written c 24 (be 8 (get_or w (p + 5) 0))
    → d ≡ digest_at w p
unfolding digest_at
digest_put w p e1 e2 e3 e4 =
    let x = be 8 (get_or w (p + 2) 0) in
    let y = be 8 (get_or w (p + 3) 0) in
    let z = be 8 (get_or w (p + 4) 0) in
    let v = be 8 (get_or w (p + 5) 0) in
    let one : length x ≡ 8 = length_be 8 (get_or w (p + 2) 0) in
    let two : length (x ++ y) ≡ 16 = length-append x y ∙ omega (arith, one, length_be 8 (get_or w (p + 3) 0)) in
    let three : length (x ++ y ++ z) ≡ 24 = length-append (x ++ y) z ∙ omega (arith, two, length_be 8 (get_or w (p + 4) 0)) in
    let four : length (x ++ y ++ z ++ v) ≡ 32 = length-append (x ++ y ++ z) v ∙ omega (arith, three, length_be 8 (get_or w (p + 5) 0)) in
    bytes_put 24 (x ++ y ++ z) (get_or w (p + 5) 0) three
    (bytes_put 16 (x ++ y) (get_or w (p + 4) 0) two (bytes_put 8 x (get_or w (p + 3) 0) one e1 e2) e3) e4
    ∙ written_whole (replicate 32 0) (x ++ y ++ z ++ v) (four ∙ sym (length-replicate {A = ℕ} 32 0))

-- ---- A store

-- its four words, and its summary behind them
pub store_put : (s : BlockStore) (o : List ℕ) {o1 o2 : List ℕ}
    → o1 ≡ clipped o 0 (s.committee_size ∷ s.authority ∷ s.rows ∷ s.loads ∷ [])
    → o2 ≡ clipped o1 4 (summary_words s.summary)
    → o2 ≡ clipped o 0 (store_words s)
unfolding store_words
store_put s o e f = behind o 0 4 (s.committee_size ∷ s.authority ∷ s.rows ∷ s.loads ∷ []) (summary_words s.summary) refl e f

-- 140 words
pub store_long : (s : BlockStore) → length s.summary.last_seen_by_authority ≡ 128 → length (store_words s) ≡ 140
unfolding store_words
store_long s rounds = ap (λ (n : ℕ). suc (suc (suc (suc n)))) (summary_long s.summary rounds)

pub opened_long : (size own : ℕ) (v : List ℕ) → length (opened_words size own v) ≡ 140
unfolding opened_words
opened_long size own v = ap (λ (n : ℕ). suc (suc (suc (suc n)))) (length_words_at v 25 136)

-- the words of an opened store, put in two parts
pub opened_put : (size own : ℕ) (v o : List ℕ) {o1 o2 : List ℕ}
    → o1 ≡ clipped o 0 (size ∷ own ∷ get_or v 8 0 ∷ 0 ∷ words_at v 25 8)
    → o2 ≡ clipped o1 12 (words_at v 33 128)
    → o2 ≡ clipped o 0 (opened_words size own v)
unfolding opened_words words_at
opened_put size own v o e f =
    behind o 0 12 (size ∷ own ∷ get_or v 8 0 ∷ 0 ∷ words_at v 25 8) (words_at v 33 128) refl e f
    ∙ ap (λ (l : List ℕ). clipped o 0 (size ∷ own ∷ get_or v 8 0 ∷ 0 ∷ l)) (sym (words_at_add v 25 8 128))
