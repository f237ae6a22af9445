-- `case_lines::feed_table` meets its contract. Assumes nothing.
use Rattle.std.proofs.Common.{refl, sym, ◌∙◌, arith}
use Rattle.case_lines.proofs.Words.{next_word, no_word}
use Rattle.case_lines.proofs.feed_table.Goals as goal

pub loop-word-init : goal.loop-word-init
loop-word-init c = refl

pub loop-word-preserved : goal.loop-word-preserved
loop-word-preserved c =
    let l = c.loop-word in
    next_word l.c c.args.t.now l.word-index (omega arith) c.feed_word-c.ensures ∙ l.invariant

pub returns : goal.returns
returns c =
    let l = c.loop-word in
    sym (no_word l.c c.args.t.now l.word-index (omega arith)) ∙ l.invariant
