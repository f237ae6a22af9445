-- `query::put_answer` meets its contract: a row is stored where there is room for it. Assumes nothing.
use mathlib.Core.Path.{sym, ap, ◌∙◌}
use mathlib.Core.List.{List}
use Prim.Native.Nat.{ℕ, ◌*◌}
use Rattle.laws.specs.Bytes.{written}
use Rattle.index.specs.Keys.{key_words, digest_words}
use Rattle.query.specs.Query.{answer_row}
use Rattle.query.proofs.Collecting.{put_room, put_full}
use Rattle.query.proofs.put_answer.Goals as goal

pub returns-then-i-out : goal.returns-then-i-out
unfolding answer_row key_words digest_words
returns-then-i-out c =
    let a = c.args in
    c.put_row.ensures ∙ ap (λ (row : List ℕ). written a.out.now (8 * a.i) row) (rw c.key_of.ensures) ∙ sym (put_room a.out.now a.i _ c.if-i-out.true)

pub returns-else-i-out : goal.returns-else-i-out
returns-else-i-out c = sym (put_full c.args.out.now c.args.i _ c.if-i-out.false)
