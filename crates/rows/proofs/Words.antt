-- Words that are moved within a table, and the parts that are left and moved. Assumes nothing.
use mathlib.Core.Path.{◌≡◌, refl, sym, ap, ◌∙◌}
use mathlib.Core.List.{List, [], ◌∷◌, ◌++◌, append_assoc}
use Prim.Native.Nat.{ℕ, zero, suc, ◌+◌, ◌≤◌, ◌<◌}
use native.Mathlib.Omega.{arith}
use lib.ListN.{length, take, drop, get_or, length-append}
use lib.Seq.{drop-cons, drop_at, length-take-le}
use Rattle.laws.specs.Bytes.{bytes_at, written}
use Rattle.laws.proofs.Written.{take_written}

-- what is written in two steps, the second just before the first, is written at once
pub written_before : (s : List ℕ) (p q : ℕ) (a b : List ℕ) → q ≤ length s → q ≡ p + length a
    → written (written s q b) p a ≡ written s p (a ++ b)
unfolding written
written_before s p q a b h e =
    let n : q + length b ≡ p + length (a ++ b) = omega (arith, length-append a b) in
    let rest : drop (p + length a) (written s q b) ≡ b ++ drop (p + length (a ++ b)) s =
    ap (λ (k : ℕ). drop k (written s q b)) (sym e)
    ∙ ap (drop q) (append_assoc (take q s) b (drop (q + length b) s))
    ∙ drop_at (take q s) (b ++ drop (q + length b) s) q (length-take-le q s h)
    ∙ ap (λ (k : ℕ). b ++ drop k s) n in
    ap (λ (l : List ℕ). l ++ a ++ drop (p + length a) (written s q b)) (take_written s q b p (omega arith) h)
    ∙ ap (λ (l : List ℕ). take p s ++ a ++ l) rest
    ∙ simp append_assoc

pub bytes_at_cons : (s : List ℕ) (p n : ℕ) → p < length s → bytes_at s p (suc n) ≡ get_or s p 0 ∷ bytes_at s (suc p) n
unfolding bytes_at
bytes_at_cons s p n h = rw (drop-cons s p 0)

-- a part, word by word
abbrev pub words_from : List ℕ → ℕ → ℕ → List ℕ
words_from s p zero = []
words_from s p (suc n) = get_or s p 0 ∷ words_from s (suc p) n

pub bytes_at_words : (s : List ℕ) (p n : ℕ) → p + n ≤ length s → bytes_at s p n ≡ words_from s p n
unfolding bytes_at
bytes_at_words s p zero h = refl
bytes_at_words s p (suc n) h =
    bytes_at_cons s p n (omega arith) ∙ ap (λ (l : List ℕ). get_or s p 0 ∷ l) (bytes_at_words s (suc p) n (omega arith))
