-- `tables::upsert_row` meets its contract. Assumes nothing.
use native.Mathlib.Omega.{arith}
use mathlib.Core.Path.{sym, ap₂, ◌∙◌}
use Rattle.rows.specs.Rows.{place_of}
use Rattle.tables.proofs.Stores.{at_within, at_words, at_count, gap_within, gap_words, gap_count, full_words, full_count}
use Rattle.tables.proofs.upsert_row.Goals as goal

pub put_row-requires : goal.put_row-requires
put_row-requires c =
    let a = c.args in
    let found = sym c.in-Ok.is ∙ c.find.ensures ∙ ap₂ place_of c.key.ensures c.rows_of.ensures in
    omega (arith, at_within a.t.now a.count a.row found c.requires.1)

pub returns-then-t-count-lt8 : goal.returns-then-t-count-lt8
returns-then-t-count-lt8 c =
    let a = c.args in
    let found = sym c.in-Err.is ∙ c.find.ensures ∙ ap₂ place_of c.key.ensures c.rows_of.ensures in record {
      value = full_count a.t.now a.count a.row found (omega arith);
      t_after = full_words a.t.now a.count a.row found (omega arith);
    }

pub insert_row-requires : goal.insert_row-requires
insert_row-requires c =
    let a = c.args in
    let found = sym c.in-Err.is ∙ c.find.ensures ∙ ap₂ place_of c.key.ensures c.rows_of.ensures in
    omega (arith, gap_within a.t.now a.count a.row found)

pub returns-in-Ok : goal.returns-in-Ok
returns-in-Ok c =
    let a = c.args in
    let found = sym c.in-Ok.is ∙ c.find.ensures ∙ ap₂ place_of c.key.ensures c.rows_of.ensures in record {
      value = at_count a.t.now a.count a.row found;
      t_after = c.put_row.ensures ∙ at_words a.t.now a.count a.row found;
    }

pub returns-else-t-count-lt8 : goal.returns-else-t-count-lt8
returns-else-t-count-lt8 c =
    let a = c.args in
    let found = sym c.in-Err.is ∙ c.find.ensures ∙ ap₂ place_of c.key.ensures c.rows_of.ensures in record {
      value = gap_count a.t.now a.count a.row found (omega arith);
      t_after = c.insert_row.ensures ∙ gap_words a.t.now a.count a.row found (omega arith);
    }
