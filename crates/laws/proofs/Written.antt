-- Laws of `written`, `bytes_at` and `zeros`. Assumes nothing.
use mathlib.Core.Path.{◌≡◌, refl, sym, ap, ◌∙◌}
use mathlib.Core.List.{List, [], ◌∷◌, ◌++◌, append_assoc, append-nil}
use Prim.Native.Nat.{ℕ, zero, suc, ◌+◌, ◌-◌, ◌/◌, ◌≤◌, ◌<◌}
use native.Mathlib.Nat.{add-zero, zero-add, add_assoc}
use native.Mathlib.Omega.{arith}
use lib.ListN.{length, take, drop, set, get_or, length-append, length-take, length-drop, length-replicate, take-append-drop}
use lib.Seq.{take-append-le, drop-append-add, take_at, drop_at, drop-drop, take-take, set_split, take-add, append_snoc, get_or-take, get_or-drop, drop-length, take-length, length-take-le}
use native.Mathlib.Numerals.{add-one}
use borrow.Rule.Slice.PartMut.{put_mid}
use Rattle.std.specs.List.{between}
use Rattle.std.specs.Simd.{first_chunks}
use Rattle.std.proofs.lemmas.Nat.{le-div}
use Rattle.std.proofs.lemmas.Slice.{put_mid-paste, between_to_end}
use Rattle.laws.specs.Bytes.{bytes_at, written, zeros}

pub length_zeros : (n : ℕ) → length (zeros n) ≡ n
unfolding zeros
length_zeros n = length-replicate n 0

pub length_written : (s : List ℕ) (p : ℕ) (v : List ℕ) → p + length v ≤ length s → length (written s p v) ≡ length s
unfolding written
length_written s p v h = simp (length-append, length-take, length-drop) (omega arith)

-- what stands before the written part, with that part
length_head : (s : List ℕ) (p : ℕ) (v : List ℕ) → p ≤ length s → length (take p s ++ v) ≡ p + length v
length_head s p v h = simp (length-append, length-take) (omega arith)

-- nothing written changes nothing
pub written_nothing : (s : List ℕ) (p : ℕ) → written s p [] ≡ s
unfolding written
written_nothing s p = rw (append-nil (take p s), add-zero p, take-append-drop p s)

-- what is written in two steps, one behind the other, is written at once
pub then_written : (s : List ℕ) (p q : ℕ) (a b : List ℕ) → p ≤ length s → q ≡ p + length a
    → written (written s p a) q b ≡ written s p (a ++ b)
unfolding written
then_written s p q a b h e =
    let n : length (take p s ++ a) ≡ q = length_head s p a h ∙ sym e in
    let rest : drop (q + length b) (take p s ++ a ++ drop (p + length a) s) ≡ drop (p + length (a ++ b)) s =
    ap (λ (k : ℕ). drop (k + length b) (take p s ++ a ++ drop (p + length a) s)) (sym n)
    ∙ drop-append-add (take p s ++ a) (drop (p + length a) s) (length b)
    ∙ drop-drop (length b) (p + length a) s
    ∙ ap (λ (k : ℕ). drop k s) (add_assoc p (length a) (length b) ∙ ap (λ (k : ℕ). p + k) (sym (length-append a b))) in
    rw (rest, take_at (take p s ++ a) (drop (p + length a) s) q n, append_assoc (take p s) a b)

-- what lies before the written part stays
pub take_written : (s : List ℕ) (p : ℕ) (v : List ℕ) (n : ℕ) → n ≤ p → p ≤ length s → take n (written s p v) ≡ take n s
unfolding written
take_written s p v n h k =
    rw append_assoc
    (take-append-le n (take p s) (v ++ drop (p + length v) s) (simp length-take (omega arith)) ∙ take-take n p s h)

-- up to its end a written list is what stood before the part, and the part
pub take_end_written : (s : List ℕ) (p : ℕ) (v : List ℕ) → p ≤ length s → take (p + length v) (written s p v) ≡ take p s ++ v
unfolding written
take_end_written s p v h = take_at (take p s ++ v) (drop (p + length v) s) (p + length v) (length_head s p v h)

pub drop_written : (s : List ℕ) (p : ℕ) (v : List ℕ) → p ≤ length s → drop (p + length v) (written s p v) ≡ drop (p + length v) s
unfolding written
drop_written s p v h = drop_at (take p s ++ v) (drop (p + length v) s) (p + length v) (length_head s p v h)

-- an element before the written part, and one behind it
pub get_or_before : (s : List ℕ) (p : ℕ) (v : List ℕ) (i : ℕ) → i < p → p ≤ length s → get_or (written s p v) i 0 ≡ get_or s i 0
get_or_before s p v i h k =
    sym (get_or-take p (written s p v) i 0 h)
    ∙ ap (λ (l : List ℕ). get_or l i 0) (take_written s p v p (omega arith) k)
    ∙ get_or-take p s i 0 h

pub get_or_behind : (s : List ℕ) (p : ℕ) (v : List ℕ) (i : ℕ) → p + length v ≤ i → p ≤ length s → get_or (written s p v) i 0 ≡ get_or s i 0
get_or_behind s p v i h k =
    let j : ℕ = i - (p + length v) in
    let there : p + length v + j ≡ i = omega arith in
    ap (λ (n : ℕ). get_or (written s p v) n 0) (sym there)
    ∙ sym (get_or-drop (p + length v) (written s p v) j 0)
    ∙ ap (λ (l : List ℕ). get_or l j 0) (drop_written s p v k)
    ∙ get_or-drop (p + length v) s j 0
    ∙ ap (λ (n : ℕ). get_or s n 0) there

-- a store of one element
pub written_one : (s : List ℕ) (p b : ℕ) → p < length s → set s p b ≡ written s p (b ∷ [])
unfolding written
written_one s p b h =
    set_split s p b h
    ∙ sym (append_snoc (take p s) b (drop (suc p) s))
    ∙ ap (λ (k : ℕ). take p s ++ (b ∷ []) ++ drop k s) (sym (add-one p))

pub length_bytes_at : (s : List ℕ) (p n : ℕ) → p + n ≤ length s → length (bytes_at s p n) ≡ n
unfolding bytes_at
length_bytes_at s p n h = simp (length-take, length-drop) (omega arith)

-- two parts, one behind the other
pub bytes_at_add : (s : List ℕ) (p m n : ℕ) → bytes_at s p (m + n) ≡ bytes_at s p m ++ bytes_at s (p + m) n
unfolding bytes_at
bytes_at_add s p m n = take-add m n (drop p s) ∙ ap (λ (l : List ℕ). take m (drop p s) ++ take n l) (drop-drop m p s)

-- a part that lies within the first c elements is a part of those
pub bytes_at_take : (s : List ℕ) (c p n : ℕ) → p + n ≤ c → bytes_at (take c s) p n ≡ bytes_at s p n
unfolding bytes_at
bytes_at_take s c zero n h = take-take n c s (omega arith)
bytes_at_take [] zero (suc p) n h = refl
bytes_at_take [] (suc c) (suc p) n h = refl
bytes_at_take (x ∷ s) zero (suc p) n h = absurd (omega arith)
bytes_at_take (x ∷ s) (suc c) (suc p) n h = bytes_at_take s c p n (omega arith)

-- the written part
pub bytes_at_written : (s : List ℕ) (p : ℕ) (v : List ℕ) → p ≤ length s → bytes_at (written s p v) p (length v) ≡ v
unfolding bytes_at
bytes_at_written s p v h =
    sym (bytes_at_take (written s p v) (p + length v) p (length v) (omega arith))
    ∙ ap (λ (l : List ℕ). bytes_at l p (length v)) (take_end_written s p v h)
    ∙ ap (take (length v)) (drop_at (take p s) v p (length-take-le p s h))
    ∙ take-length v

pub get_or_zeros : (n i : ℕ) → get_or (zeros n) i 0 ≡ 0
unfolding zeros
get_or_zeros zero i = refl
get_or_zeros (suc n) zero = refl
get_or_zeros (suc n) (suc i) = get_or_zeros n i

pub get_or_bytes_at : (s : List ℕ) (p n i : ℕ) → i < n → get_or (bytes_at s p n) i 0 ≡ get_or s (p + i) 0
unfolding bytes_at
get_or_bytes_at s p n i h = rw (get_or-take, get_or-drop)

-- what is written over a whole list is the list
pub written_whole : (s v : List ℕ) → length v ≡ length s → written s 0 v ≡ v
unfolding written
written_whole s v h = rw (zero-add (length v), h, drop-length s, append-nil v)

-- what a write to the k elements from index p on makes of s, where these become v
pub put_mid-written : (s : List ℕ) (p k : ℕ) {t v : List ℕ} → t ≡ v → k ≡ length v → put_mid p k s t ≡ written s p v
unfolding written
put_mid-written s p k {t} {v} e l =
    put_mid-paste p k s t v k e refl l ∙ rw (l, take-length v)

-- the first of the chunks of n elements that s has from index p on
pub get_or-first_chunks : (s : List ℕ) (p n : ℕ) {chunks : List (List ℕ)} → chunks ≡ first_chunks n (length (between p (length s) s) / n) (between p (length s) s) → 0 < n → p + n ≤ length s
    → get_or chunks 0 [] ≡ bytes_at s p n
unfolding bytes_at
get_or-first_chunks s p n e h l =
    let rest : between p (length s) s ≡ drop p s = between_to_end s p (length s) (omega arith) in
    let some : 1 ≤ length (drop p s) / n = le-div 1 (length (drop p s)) n h (omega (arith, length-drop p s)) in
    ap (λ (c : List (List ℕ)). get_or c 0 []) (e ∙ ap (λ (t : List ℕ). first_chunks n (length t / n) t) rest) ∙ first (length (drop p s) / n) (drop p s) some
  where
    first : (q : ℕ) (t : List ℕ) → 1 ≤ q → get_or (first_chunks n q t) 0 [] ≡ take n t
    first zero t m = absurd (omega arith)
    first (suc q) t m = refl
