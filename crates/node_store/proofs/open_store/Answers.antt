-- `node_store::open_store` meets its contract: a refusal changes no word. Assumes nothing.
use mathlib.Core.Path.{◌≡◌, sym, ◌∙◌}
use Prim.Native.Nat.{ℕ}
use lib.ListN.{length}
use Rattle.wal_position.proofs.Checks.{unless_passed, unless_refused}
use Rattle.node_words.proofs.Words.{over_all}
use Rattle.node_store.specs.Stores.{opened_number, opened_words, opened_after}
use Rattle.node_store.proofs.Stores.{opened_long}
use Rattle.node_store.proofs.open_store.Goals as goal

pub returns-then-refusal-ne0 : goal.returns-then-refusal-ne0
unfolding opened_after
returns-then-refusal-ne0 c =
    let a = c.args in
    let number = c.open_number-refusal.ensures in (
      number,
      sym (unless_refused (λ (m : ℕ). a.out.now) (opened_words a.size a.own a.recovered.now) (opened_number a.size a.own a.recovered.now) (λ z. c.if-refusal-ne0.true (number ∙ z))),
    )

pub returns : goal.returns
unfolding opened_after
returns c =
    let a = c.args in
    let passed = sym c.open_number-refusal.ensures ∙ c.if-refusal-ne0.false in
    let all : length a.out.now ≡ 140 = c.put_opened-arg-1.given.0.1 in (
      sym passed,
      c.put_opened.ensures
          ∙ over_all a.out.now (opened_words a.size a.own a.recovered.now) (all ∙ sym (opened_long a.size a.own a.recovered.now))
          ∙ sym (unless_passed (λ (m : ℕ). a.out.now) (opened_words a.size a.own a.recovered.now) (opened_number a.size a.own a.recovered.now) passed),
    )
