-- A read after a burst of four bytes in the payload: it is refused with 7. Assumes nothing.
use Prim.Native.Nat.{ℕ, ◌+◌, ◌-◌, ◌≤◌}
use mathlib.Core.Path.{◌≡◌, sym, ap, ◌∙◌}
use mathlib.Core.List.{List}
use native.Mathlib.Omega.{arith}
use lib.ListN.{length, take}
use Rattle.laws.specs.Bytes.{AllBytes, bytes_at}
use Rattle.checksum.specs.Crc32.{crc32}
use Rattle.entry.specs.Entry.{checksum_at, length_at, payload_at}
use Rattle.wal_position.specs.Region.{next_region}
use Rattle.wal_position.specs.Checks.{log_check}
use Rattle.wal_position.proofs.Checks.{Sound, passed_sound, unless_passed}
use Rattle.wal_reader.specs.Entries.{Entry}
use Rattle.wal_reader.specs.Look.{damaged, look_at}
use Rattle.wal_reader.specs.Read.{refused, read_of, read_at}
use Rattle.wal_reader.specs.Answers.{entry_of, found_of}
use Rattle.wal_reader.specs.declared.WalEntry.{WalEntry}
use Rattle.wal_reader.proofs.Looks.{announced_crc, length_payload_at, look_announced}
use Rattle.wal_reader.proofs.ReadAnswers.{found_read, checked_whole}
use Rattle.wal.proofs.Walks.{Listed, whole_listed}
use Rattle.wal.proofs.Prefixes.{checksum_same, length_same}
use Rattle.burst.specs.Burst.{Burst, ReadDetects}
use Rattle.burst.proofs.Images.{before_payload, crc_differs}

-- where s has an entry at p, t has one that 7 refuses
pub look_damaged : (k : ℕ) (s : List ℕ) → AllBytes s → (used p : ℕ) (a : Entry) → used ≤ length s → Listed k s used p a
    → (t : List ℕ) → AllBytes t → Burst 4 (p + 16) (length a.payload) s t → look_at k t used p ≡ damaged 7
unfolding payload_at
look_damaged k s bs used p a image l t bt h =
    let least : 16 ≤ length_at s p = l.length_least in
    let long : length a.payload ≡ length_at s p - 16 = ap length l.payload ∙ length_payload_at s p least (omega (arith, l.in_used)) in
    let header : take (p + 16) s ≡ take (p + 16) t =
    before_payload (p + 16) (length a.payload) s t h in
    let len : length_at s p ≡ length_at t p = length_same s t (p + 16) header p (omega arith) in
    let sum : checksum_at s p ≡ checksum_at t p = checksum_same s t (p + 16) header p (omega arith) in
    let was : bytes_at s (p + 16) (length a.payload) ≡ a.payload = ap (bytes_at s (p + 16)) long ∙ sym l.payload in
    let is : payload_at t p ≡ bytes_at t (p + 16) (length a.payload) =
    ap (λ (n : ℕ). bytes_at t (p + 16) (n - 16)) (sym len) ∙ ap (bytes_at t (p + 16)) (sym long) in
    look_announced k t used p (omega (arith, l.in_region)) (omega (arith, l.in_used))
    ∙ announced_crc t used (next_region k p) p (λ zero. omega arith) (omega arith) (omega (arith, l.in_region)) (omega (arith, l.in_used))
    (λ same.
    crc_differs (p + 16) (length a.payload) s t h bs bt (omega (arith, l.in_used))
    (ap crc32 was ∙ sym l.checksum ∙ sum ∙ same ∙ ap crc32 is))

pub read_detects : ReadDetects 4
unfolding read_at read_of found_of entry_of
read_detects k s bs used p e reads t bt h =
    let at = found_read (read_at k s used p) (sym reads) in
    let a : Entry = at.0 in
    let both = checked_whole k s used p a at.1 in
    let sound : Sound k used (length s) = passed_sound k used (length s) both.0 in
    let len : e.len ≡ length a.payload = ap (λ (x : WalEntry). x.len) at.2 in
    let passes : log_check k used (length t) ≡ 0 = ap (log_check k used) (sym h.same_length) ∙ both.0 in
    let look : look_at k t used p ≡ damaged 7 =
    look_damaged k s bs used p a sound.within (whole_listed both.1) t bt (rw len at h) in
    ap found_of (unless_passed refused (read_of (look_at k t used p)) (log_check k used (length t)) passes ∙ ap read_of look)
