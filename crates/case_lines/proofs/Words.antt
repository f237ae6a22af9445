-- Words fed to the register one after the other are their bytes fed at once. Assumes nothing.
use Prim.Native.Nat.{ℕ, suc, ◌+◌, ◌≤◌, ◌<◌}
use mathlib.Core.Path.{◌≡◌, sym, ap, ◌∙◌}
use mathlib.Core.List.{List, ◌++◌}
use native.Mathlib.Numerals.{add-one}
use lib.ListN.{length, drop, get_or, drop_of_length-le}
use lib.Seq.{drop-cons}
use Rattle.laws.specs.Bytes.{le}
use Rattle.laws.specs.Parse.{joined}
use Rattle.checksum.specs.Crc32.{feed}
use Rattle.checksum.proofs.Register.{feed_append}

-- the next word of a table, and those behind it
pub next_word : (c : ℕ) {d : ℕ} (t : List ℕ) (i : ℕ) → i < length t → d ≡ feed c (le 8 (get_or t i 0))
    → feed d (joined (le 8) (drop (i + 1) t)) ≡ feed c (joined (le 8) (drop i t))
unfolding joined
next_word c {d} t i h e =
    let word : List ℕ = le 8 (get_or t i 0) in
    let rest : List ℕ = joined (le 8) (drop (suc i) t) in
    ap (λ (n : ℕ). feed d (joined (le 8) (drop n t))) (add-one i)
    ∙ ap (λ (n : ℕ). feed n rest) e
    ∙ sym (feed_append c word rest)
    ∙ ap (λ (l : List ℕ). feed c (joined (le 8) l)) (sym (drop-cons t i 0 h))

-- behind the last word
pub no_word : (c : ℕ) (t : List ℕ) (i : ℕ) → length t ≤ i → feed c (joined (le 8) (drop i t)) ≡ c
unfolding joined feed
no_word c t i h = ap (λ (l : List ℕ). feed c (joined (le 8) l)) (drop_of_length-le t h)

-- four parts fed one after the other
pub fed_four : (c : ℕ) {one two three four : ℕ} (a b d e : List ℕ)
    → one ≡ feed c a → two ≡ feed one b → three ≡ feed two d → four ≡ feed three e → four ≡ feed c (a ++ b ++ d ++ e)
fed_four c a b d e first second third fourth =
    fourth
    ∙ ap (λ (n : ℕ). feed n e)
    (third ∙ ap (λ (n : ℕ). feed n d) (second ∙ ap (λ (n : ℕ). feed n b) first ∙ sym (feed_append c a b)) ∙ sym (feed_append c (a ++ b) d))
    ∙ sym (feed_append c (a ++ b ++ d) e)
