-- A step of the register is one-to-one on 32 bits, and so are four octets behind one register, and one message behind two registers: messages that
-- differ within four octets have different checksums. Assumes nothing.
use Prim.Native.Nat.{ℕ, zero, suc, ◌*◌, ◌/◌, ◌%◌, ◌^◌, ◌≤◌, ◌<◌}
use mathlib.Core.Path.{◌≡◌, refl, sym, ap, ap₂, ◌∙◌}
use mathlib.Core.List.{List, ◌++◌}
use native.Mathlib.Nat.{lt_of_lt_of_le, pow-le-pow_right}
use native.Mathlib.Omega.{arith}
use lib.Bits.{bit_xor, xor_self, xor_zero_l, xor_comm, xor_shr, xor_lt}
use lib.Dec.{lit<}
use lib.ListN.{length}
use Rattle.laws.specs.Bytes.{AllBytes, le}
use Rattle.laws.proofs.LittleEndian.{le_of_le, of_le_small}
use Rattle.half_bytes.specs.Register.{step, steps, fed}
use Rattle.half_bytes.proofs.Register.{xor_assoc, step_lt, value, value_of_le, fed_value, fed_append, fed_apart}
use Rattle.checksum.specs.Crc32.{crc32, feed}
use Rattle.checksum.proofs.Register.{feed_lt, fed_same}
use Rattle.checksum.proofs.Crc32.{complement_is_crc32}

-- ---- exclusive or

xor_twice : (a b : ℕ) → bit_xor a (bit_xor a b) ≡ b
xor_twice a b = sym (xor_assoc a a b) ∙ ap (λ (n : ℕ). bit_xor n b) (xor_self a) ∙ xor_zero_l b

xor_cancel : (a b c : ℕ) → bit_xor a b ≡ bit_xor a c → b ≡ c
xor_cancel a b c h = sym (xor_twice a b) ∙ ap (bit_xor a) h ∙ xor_twice a c

xor_cancel_r : (a b c : ℕ) → bit_xor b a ≡ bit_xor c a → b ≡ c
xor_cancel_r a b c h = xor_cancel a b c (xor_comm a b ∙ h ∙ xor_comm c a)

-- ---- steps

-- The polynomial has the highest digit, which c / 2 has not: it shows the digit that was shifted out.
step_top : (c : ℕ) → c < 2 ^ 32 → step c / 2 ^ 31 ≡ c % 2
unfolding step
step_top c h =
    let high : c / 2 / 2 ^ 31 ≡ 0 = omega arith in
    let low : c % 2 * 0xedb88320 / 2 ^ 31 ≡ c % 2 = omega arith in
    xor_shr (c / 2) (c % 2 * 0xedb88320) 31 ∙ ap₂ bit_xor high low ∙ xor_zero_l (c % 2)

pub step_injective : (x y : ℕ) → x < 2 ^ 32 → y < 2 ^ 32 → step x ≡ step y → x ≡ y
unfolding step
step_injective x y hx hy h =
    let low : x % 2 ≡ y % 2 = sym (step_top x hx) ∙ ap (λ (n : ℕ). n / 2 ^ 31) h ∙ step_top y hy in
    let high : x / 2 ≡ y / 2 =
    xor_cancel_r (x % 2 * 0xedb88320) (x / 2) (y / 2) (h ∙ ap (λ (n : ℕ). bit_xor (y / 2) (n * 0xedb88320)) (sym low)) in
    omega arith

pub steps_injective : (n x y : ℕ) → x < 2 ^ 32 → y < 2 ^ 32 → steps n x ≡ steps n y → x ≡ y
unfolding steps
steps_injective zero x y hx hy h = h
steps_injective (suc n) x y hx hy h = step_injective x y hx hy (steps_injective n (step x) (step y) (step_lt x hx) (step_lt y hy) h)

-- ---- octets

-- four octets, or fewer, behind one register
octets_injective : (c : ℕ) (v w : List ℕ) → c < 2 ^ 32 → length v ≡ length w → length v ≤ 4 → AllBytes v → AllBytes w → fed c v ≡ fed c w → v ≡ w
octets_injective c v w hc e four hv hw h =
    let small : (x : List ℕ) → AllBytes x → length x ≤ 4 → bit_xor c (value x) < 2 ^ 32 =
    λ x hx l.
    xor_lt 32 c (value x) hc (rw (value_of_le x hx) (lt_of_lt_of_le (of_le_small x hx) (pow-le-pow_right (lit< tt) l))) in
    let values : value v ≡ value w =
    xor_cancel c (value v) (value w)
    (steps_injective (length v * 8) (bit_xor c (value v)) (bit_xor c (value w)) (small v hv four) (small w hw (omega arith))
    (sym (fed_value c v) ∙ h ∙ fed_value c w ∙ ap (λ (n : ℕ). steps (n * 8) (bit_xor c (value w))) (sym e))) in
    sym (le_of_le v hv) ∙ ap₂ le e (sym (value_of_le v hv) ∙ values ∙ value_of_le w hw) ∙ le_of_le w hw

-- one message behind two registers
message_injective : (x y : ℕ) (b : List ℕ) → x < 2 ^ 32 → y < 2 ^ 32 → fed x b ≡ fed y b → x ≡ y
message_injective x y b hx hy h =
    steps_injective (length b * 8) x y hx hy
    (xor_cancel_r (fed 0 b) (steps (length b * 8) x) (steps (length b * 8) y) (sym (fed_apart x b) ∙ h ∙ fed_apart y b))

-- ---- the checksum

fed_lt : (c : ℕ) (octets : List ℕ) → c < 2 ^ 32 → fed c octets < 2 ^ 32
fed_lt c octets h = rw (fed_same c octets h) (feed_lt c octets h)

crc_fed : (a b : List ℕ) → crc32 a ≡ crc32 b → fed 0xffffffff a ≡ fed 0xffffffff b
crc_fed a b h =
    let init : ◌<◌ 0xffffffff (2 ^ 32) = omega arith in
    let same : feed 0xffffffff a ≡ feed 0xffffffff b =
    omega (
      arith,
      complement_is_crc32 (feed 0xffffffff a) a refl,
      complement_is_crc32 (feed 0xffffffff b) b refl,
      feed_lt 0xffffffff a init,
      feed_lt 0xffffffff b init,
    ) in
    fed_same 0xffffffff a init ∙ same ∙ sym (fed_same 0xffffffff b init)

-- messages that are the same but for four octets, and have the same checksum, are the same there too
pub crc_injective : (a v w b : List ℕ) → length v ≡ length w → length v ≤ 4 → AllBytes v → AllBytes w
    → crc32 (a ++ (v ++ b)) ≡ crc32 (a ++ (w ++ b)) → v ≡ w
crc_injective a v w b e four hv hw h =
    let c : ℕ = fed 0xffffffff a in
    let small : fed 0xffffffff a < 2 ^ 32 = fed_lt 0xffffffff a (omega arith) in
    let parts : (x : List ℕ) → fed 0xffffffff (a ++ (x ++ b)) ≡ fed (fed c x) b =
    λ x. fed_append 0xffffffff a (x ++ b) ∙ fed_append c x b in
    octets_injective c v w small e four hv hw
    (message_injective (fed c v) (fed c w) b (fed_lt c v small) (fed_lt c w small)
    (sym (parts v) ∙ crc_fed (a ++ (v ++ b)) (a ++ (w ++ b)) h ∙ parts w))
