-- `index::key_of` meets its contract: word by word, what std reads in the digest. Assumes nothing.
use mathlib.Core.Path.{◌≡◌, ◌∙◌}
use mathlib.Core.List.{List, []}
use Prim.Native.Nat.{ℕ, ◌*◌, ◌<◌}
use native.Mathlib.Omega.{arith}
use lib.ListN.{get_or}
use mir.Syntax.{w64}
use Rattle.std.specs.Int.{from_be_bytes}
use Rattle.laws.specs.Bytes.{bytes_at}
use Rattle.index.specs.Keys.{of_be, key_words, digest_words}
use Rattle.index.proofs.BigEndian.{be_word}
use Rattle.index.proofs.key_of.Goals as goal

pub returns : goal.returns
unfolding key_words digest_words
returns c =
    let d : List ℕ = c.args.reference.digest.0 in
    let word : (i : ℕ) → i < 4 → from_be_bytes w64 (get_or c.as_chunks.result.0.now i []) ≡ of_be (bytes_at d (8 * i) 8) =
    λ i m. rw c.as_chunks.ensures.front (be_word d i (omega arith) m) in
    let a = c.from_be_bytes.ensures ∙ word 0 (omega arith) in
    let b = c.from_be_bytes-2.ensures ∙ word 1 (omega arith) in
    let e = c.from_be_bytes-3.ensures ∙ word 2 (omega arith) in
    let f = c.from_be_bytes-4.ensures ∙ word 3 (omega arith) in
    cc
