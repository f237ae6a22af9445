-- Laws of lists that stand in another: what follows a known beginning, and a part behind it. Assumes nothing.
use mathlib.Core.Path.{◌≡◌, refl, sym, ap, ◌∙◌}
use mathlib.Core.List.{List, ◌++◌}
use Prim.Native.Nat.{ℕ, ◌+◌, ◌≤◌}
use lib.ListN.{length, take, drop, replicate-append-replicate}
use lib.Seq.{drop-drop, drop_at, take_at}
use Rattle.laws.specs.Bytes.{bytes_at, zeros}
use Rattle.laws.proofs.Written.{bytes_at_take}

-- what follows a in s, where a and b stand from index p on
pub drop_past : (s : List ℕ) (p q : ℕ) (a b : List ℕ) → drop p s ≡ a ++ b → q ≡ p + length a → drop q s ≡ b
drop_past s p q a b h e =
    ap (λ (n : ℕ). drop n s) e
    ∙ sym (drop-drop (length a) p s)
    ∙ ap (drop (length a)) h
    ∙ drop_at a b (length a) refl

-- a part behind a
pub part_past : (s : List ℕ) (p q n : ℕ) (a v b : List ℕ) → drop p s ≡ a ++ (v ++ b) → q ≡ p + length a → length v ≡ n → bytes_at s q n ≡ v
unfolding bytes_at
part_past s p q n a v b h e l = ap (take n) (drop_past s p q a (v ++ b) h e) ∙ take_at v b n l

-- lists with the same first c elements have the same parts there
pub same_parts : (s t : List ℕ) (c p n : ℕ) → take c s ≡ take c t → p + n ≤ c → bytes_at s p n ≡ bytes_at t p n
same_parts s t c p n h l =
    sym (bytes_at_take s c p n l) ∙ ap (λ (x : List ℕ). bytes_at x p n) h ∙ bytes_at_take t c p n l

pub zeros_add : (m n : ℕ) → zeros (m + n) ≡ zeros m ++ zeros n
unfolding zeros
zeros_add m n = sym (replicate-append-replicate m n 0)
