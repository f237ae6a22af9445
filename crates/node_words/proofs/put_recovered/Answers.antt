-- `node_words::put_recovered` meets its contract: its parts stand one behind the other. Assumes nothing.
use borrow.Author.Rules.{rules}
use mathlib.Core.Path.{◌≡◌, sym, ◌∙◌}
use lib.ListN.{length}
use Rattle.node_words.specs.Words.{recovered_words}
use Rattle.node_words.proofs.Words.{over_all, recovered_put}
use Rattle.node_words.proofs.Long.{words_long}
use Rattle.node_words.proofs.put_recovered.Goals as goal

pub returns : goal.returns
returns c =
    let a = c.args in
    let all : length a.out.now ≡ 161 = search rules in
    recovered_put a.r a.out.now c.put_head.ensures c.put_span.ensures c.put_span-2.ensures c.put_span-3.ensures
    c.put_reference.ensures c.put_summary.ensures.0
    ∙ over_all a.out.now (recovered_words a.r) (all ∙ sym (words_long a.r c.put_summary.ensures.1))
