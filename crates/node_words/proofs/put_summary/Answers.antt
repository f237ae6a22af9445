-- `node_words::put_summary` meets its contract: its parts stand one behind the other. Assumes nothing.
use borrow.Author.Rules.{rules}
use mathlib.Core.Path.{◌≡◌}
use lib.ListN.{length}
use Rattle.node_words.proofs.Words.{summary_put}
use Rattle.node_words.proofs.put_summary.Goals as goal

pub returns : goal.returns
returns c =
    let a = c.args in
    let rounds : length a.s.last_seen_by_authority ≡ 128 = search rules in
    (summary_put a.s a.out.now a.at c.put_reference.ensures c.put_words.ensures c.put_words-2.ensures, rounds)
