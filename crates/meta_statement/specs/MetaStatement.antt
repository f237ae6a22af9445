-- What a pending entry stands for: core.rs has a block that is included, by its reference, or a payload of statements.
use Rattle.std.specs.Prelude.{List, ℕ, eqb, length, Option, Some, None}
use Rattle.laws.specs.Pick.{pick}
use Rattle.laws.specs.Parse.{Res, bad, got, then, answer}
use Rattle.types.specs.declared.BlockReference.{BlockReference}
use Rattle.types.specs.Records.{StatementValue, block, payload}
use Rattle.meta_statement.specs.declared.MetaStatement.{MetaStatement}
use Rattle.meta_statement.specs.declared.MetaStatement.TheVariants.{Include, Payload}

pub data MetaValue : Type 0 where
  include : BlockReference → MetaValue
  statements : List StatementValue → MetaValue

-- "Tags: 1 block; 2 payload (list of statements)": a block, of which the reference is kept
unfoldable pub included : List ℕ → Res MetaValue
included s = then (block s 0) (λ b e. got (include b.reference) e)

unfoldable pub stated : List ℕ → Res MetaValue
stated s = then (payload s 0) (λ ss e. got (statements ss) e)

-- of an entry's tag and payload; entries of other tags are never pending
unfoldable pub meta_statement : ℕ → List ℕ → Res MetaValue
meta_statement tag s = pick (eqb tag 1) (included s) (pick (eqb tag 2) (stated s) bad)

-- the answer: the first statement stands behind the count of 8 bytes
abbrev pub meta_of : MetaValue → MetaStatement
meta_of (include r) = Include r
meta_of (statements ss) = Payload (record { at = 8; left = length ss })

abbrev pub meta_answer : Res MetaValue → Option MetaStatement
meta_answer = answer None (λ v e. Some (meta_of v))
