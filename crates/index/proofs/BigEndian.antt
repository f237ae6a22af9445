-- Laws of big-endian numbers, over the width. Assumes nothing.
use mathlib.Core.Path.{◌≡◌, ap, ◌∙◌}
use mathlib.Core.List.{List, [], ◌∷◌}
use Prim.Native.Nat.{ℕ, suc, ◌*◌, ◌/◌, ◌^◌, ◌<◌}
use native.Mathlib.Nat.{mul-le-mul_right, pow-succ', suc-mul}
use native.Mathlib.Omega.{arith}
use lib.Dec.{lit<}
use lib.ListN.{length, get_or}
use mir.Syntax.{w64}
use Rattle.std.specs.Int.{from_be_bytes}
use Rattle.std.specs.Simd.{first_chunks}
use Rattle.rows.specs.Rows.{row_at}
use Rattle.rows.proofs.Arrays.{chunks_rows}
use Rattle.rows.proofs.Rows.{get_or_rows_of}
use Rattle.rows.proofs.Words.{bytes_at_words}
use Rattle.laws.specs.Bytes.{bytes_at, AllBytes}
use Rattle.index.specs.Keys.{of_be}

pub of_be_lt : (l : List ℕ) → AllBytes l → of_be l < 256 ^ length l
unfolding of_be
of_be_lt [] h = lit< tt
of_be_lt (b ∷ l) h =
    let power = pow-succ' 256 (length l) in
    let most = mul-le-mul_right (256 ^ length l) (h 0) in
    let one = suc-mul b (256 ^ length l) in
    omega (arith, of_be_lt l (λ i. h (suc i)))

-- eight bytes, as std reads them
be_eight : (a b c d e f g h : ℕ)
    → from_be_bytes w64 (a ∷ b ∷ c ∷ d ∷ e ∷ f ∷ g ∷ h ∷ []) ≡ of_be (a ∷ b ∷ c ∷ d ∷ e ∷ f ∷ g ∷ h ∷ [])
unfolding of_be
be_eight a b c d e f g h = omega arith

-- a digest's words
pub be_word : (d : List ℕ) (i : ℕ) → length d ≡ 32 → i < 4 → from_be_bytes w64 (get_or (first_chunks 8 (length d / 8) d) i []) ≡ of_be (bytes_at d (8 * i) 8)
unfolding row_at
be_word d i h m =
    let n : length d / 8 ≡ 4 = omega arith in
    let e : get_or (first_chunks 8 (length d / 8) d) i [] ≡ row_at d i =
    rw n (ap (λ (l : List (List ℕ)). get_or l i []) (chunks_rows 4 d) ∙ get_or_rows_of d i 4 m) in
    ap (from_be_bytes w64) e ∙ rw (bytes_at_words d (8 * i) 8 (omega arith)) (be_eight _ _ _ _ _ _ _ _)
