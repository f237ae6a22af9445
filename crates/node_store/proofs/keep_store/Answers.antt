-- `node_store::keep_store` meets its contract. Assumes nothing.
use borrow.Author.Rules.{rules}
use mathlib.Core.Path.{◌≡◌, sym, ◌∙◌}
use lib.ListN.{length}
use Rattle.node_words.proofs.Words.{over_all}
use Rattle.node_store.specs.Stores.{store_words, store_after}
use Rattle.node_store.proofs.Stores.{store_long}
use Rattle.node_store.proofs.keep_store.Goals as goal

pub returns-in-Some : goal.returns-in-Some
unfolding store_after
returns-in-Some c =
    let s = c.in-Some.store in
    let rounds : length s.summary.last_seen_by_authority ≡ 128 = search rules in
    let put = c.put_store.ensures ∙ over_all c.args.out.now (store_words s) (c.told-out ∙ sym (store_long s rounds)) in
    rw c.in-Some.is (rw (put, c.lent_reference-lent.ensures) at c.keep_reference.ensures)
