-- Digest and signature (document 01, "Records"): parser and layout side by side.
use Rattle.std.specs.Prelude.{List, ℕ}
use Rattle.laws.specs.Parse.{Parser, got, then}
use Rattle.bincode.specs.Bincode.{exactly, byte_string_bytes}
use Rattle.crypto.specs.declared.BlockDigest.{BlockDigest}
use Rattle.crypto.specs.declared.SignatureBytes.{SignatureBytes}

-- "A digest is taken as a byte string, count 32 and 32 bytes"
unfoldable pub digest : Parser BlockDigest
digest s p = then (exactly 32 s p) (λ bytes e. got (record { 0 = bytes }) e)

unfoldable pub digest_bytes : BlockDigest → List ℕ
digest_bytes d = byte_string_bytes d.0

-- "a signature is 64 bytes carried whole behind its count"
unfoldable pub signature : Parser SignatureBytes
signature s p = then (exactly 64 s p) (λ bytes e. got (record { 0 = bytes }) e)

unfoldable pub signature_bytes : SignatureBytes → List ℕ
signature_bytes b = byte_string_bytes b.0
