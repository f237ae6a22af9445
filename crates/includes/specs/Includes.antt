-- The includes of a block, of its bytes.
use Rattle.std.specs.Prelude.{◌≡◌, List, [], ℕ}
use Rattle.laws.specs.Parse.{got, answer}
use Rattle.types.specs.declared.BlockReference.{BlockReference}
use Rattle.types.specs.Records.{BlockValue, block}

-- the includes of a block, of its bytes. A block that was read decodes (the crate block_reader, proofs/Decoding.antt, `read_decodes`)
unfoldable pub includes_of : List ℕ → List BlockReference
includes_of bytes = answer [] (λ (b : BlockValue) e. b.includes) (block bytes 0)

-- bytes that begin with a block
abbrev pub Parses : List ℕ → Type 0
Parses bytes = (b : BlockValue) × (e : ℕ) × (block bytes 0 ≡ got b e)
