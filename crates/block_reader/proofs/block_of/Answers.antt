-- `block_reader::block_of` meets its contract: the tag says what the payload holds. Assumes nothing.
use mathlib.Core.Path.{ap, ◌∙◌}
use mathlib.Core.List.{List}
use Prim.Native.Nat.{ℕ, ◌+◌}
use native.Mathlib.Omega.{arith}
use Rattle.laws.specs.Pick.{pick}
use Rattle.laws.specs.Bytes.{bytes_at}
use Rattle.refusal.specs.Refusals.{refusal_of}
use Rattle.block_reader.specs.Reading.{plain_block, own_block_at, read_of}
use Rattle.laws.proofs.Parts.{part_is}
use Rattle.block_reader.proofs.Reading.{tag_plain, tag_own, tag_other}
use Rattle.block_reader.proofs.block_of.Goals as goal

pub returns-in-1 : goal.returns-in-1
returns-in-1 c =
    let a = c.args in
    c.plain_block.ensures
    ∙ ap (λ (l : List ℕ). read_of (plain_block (a.entry.position.0 + 16) l)) (part_is a.image.now (a.entry.position.0 + 16) a.entry.len)
    ∙ ap read_of (tag_plain (record { start = a.entry.position.0; tag = a.entry.tag; payload = bytes_at a.image.now (a.entry.position.0 + 16) a.entry.len }) c.in-1.is)

pub returns-in-3 : goal.returns-in-3
returns-in-3 c =
    let a = c.args in
    c.own_block.ensures
    ∙ ap (λ (l : List ℕ). read_of (own_block_at (a.entry.position.0 + 16) l)) (part_is a.image.now (a.entry.position.0 + 16) a.entry.len)
    ∙ ap read_of (tag_own (record { start = a.entry.position.0; tag = a.entry.tag; payload = bytes_at a.image.now (a.entry.position.0 + 16) a.entry.len }) (λ e. omega (arith, c.in-3.is)) c.in-3.is)

pub returns-in_default : goal.returns-in_default
unfolding read_of refusal_of pick
returns-in_default c =
    let a = c.args in
    ap read_of (tag_other (record { start = a.entry.position.0; tag = a.entry.tag; payload = bytes_at a.image.now (a.entry.position.0 + 16) a.entry.len }) (λ z. omega arith) (λ z. omega arith))
