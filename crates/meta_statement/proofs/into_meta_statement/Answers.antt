-- `meta_statement::into_meta_statement` meets its contract. Assumes nothing.
use Rattle.std.proofs.Common.{Some}
use borrow.Author.Tests.{ne_eqb}
use mathlib.Core.Path.{ap}
use native.Mathlib.Omega.{arith}
use Rattle.laws.specs.Pick.{pick}
use Rattle.laws.specs.Parse.{answer, then}
use Rattle.bincode.specs.declared.Cursor.{Cursor}
use Rattle.bincode.proofs.Found.{told_as, told_none}
use Rattle.types.specs.Records.{block, payload}
use Rattle.blocks.specs.declared.StatementBlock.{StatementBlock}
use Rattle.meta_statement.specs.declared.MetaStatement.TheVariants.{Include, Payload}
use Rattle.meta_statement.specs.MetaStatement.{included, stated, meta_statement}
use Rattle.meta_statement.proofs.into_meta_statement.Goals as goal

pub returns-in_err-block-in-1 : goal.returns-in_err-block-in-1
unfolding meta_statement pick included then answer
returns-in_err-block-in-1 c = rw (c.from_residual.ensures, c.in-1.is, told_none _ (block c.args.payload.now 0) c.in_err-block-in-1.ensures)

pub returns-in_ok-block-in-1 : goal.returns-in_ok-block-in-1
unfolding meta_statement pick included then answer
returns-in_ok-block-in-1 c =
    let found = told_as _ (block c.args.payload.now 0) c.in_ok-block-in-1.ensures in
    rw (c.in-1.is, found.1) (ap (λ (b : StatementBlock). Some (Include b.reference)) found.2)

pub returns-in_err-statements-in-2 : goal.returns-in_err-statements-in-2
unfolding meta_statement pick stated payload then answer
returns-in_err-statements-in-2 c =
    rw (c.from_residual-in_err-statements-in-2.ensures, c.in-2.is, told_none _ (payload c.args.payload.now 0) c.in_err-statements-in-2.ensures)

pub returns-in_ok-statements-in-2 : goal.returns-in_ok-statements-in-2
unfolding meta_statement pick stated payload then answer
returns-in_ok-statements-in-2 c =
    let found = told_as _ (payload c.args.payload.now 0) c.in_ok-statements-in-2.ensures in
    rw (c.in-2.is, found.1) (ap (λ (d : Cursor). Some (Payload d)) found.2)

pub returns-in_default : goal.returns-in_default
unfolding meta_statement pick answer
returns-in_default c = rw (ne_eqb c.args.tag 1 (λ z. omega arith), ne_eqb c.args.tag 2 (λ z. omega arith))
