-- `query::answer` meets its contract: what was collected is the answer, unless it does not fit. Assumes nothing.
use mathlib.Core.Path.{◌≡◌, sym, ap, ap₂, ◌∙◌}
use mathlib.Core.List.{List}
use Prim.Native.Nat.{ℕ, ◌/◌}
use lib.ListN.{length}
use Rattle.std.specs.Prelude.{Result}
use Rattle.std.specs.Result.{is_err}
use Rattle.refusal.specs.declared.Refusal.{Refusal}
use Rattle.wal_position.specs.Logs.{of_log}
use Rattle.store.specs.Views.{of_view}
use Rattle.filters.specs.Segments.{chosen}
use Rattle.query.specs.declared.Collected.{Collected}
use Rattle.query.specs.Query.{Blocks, call_of, read_rows, fitting, looked_up, answer_words}
use Rattle.query.specs.Collecting.{finished}
use Rattle.query.proofs.Answering.{collected_answer, refused_words, answered_words, query_collected}
use Rattle.query.proofs.answer.Goals as goal
use Rattle.query.proofs.answer.Goals.{After-finish-looked}

abbrev asked : After-finish-looked → List (List ℕ)
asked c = chosen c.args.author c.args.limit c.args.rows.now

abbrev lent : After-finish-looked → ℕ
lent c = length c.args.out.now / 8

abbrev blocks : After-finish-looked → Blocks
blocks c = of_log read_rows c.args.view.now.log (asked c)

answered : (c : After-finish-looked) → c.finish-looked.result ≡ looked_up c.args.view.now.store (asked c) (fitting (lent c) (blocks c))
answered c =
    let store = c.args.view.now.store in
    c.finish-looked.ensures
    ∙ ap₂ (λ (r : Result Collected Refusal) (n : ℕ). finished store r (n / 8)) c.collect-collected.ensures.value (c.collect-collected.auto.out ∙ c.clear.auto.t)
    ∙ collected_answer store (asked c) (lent c) (blocks c)

pub returns-then-is_err : goal.returns-then-is_err
returns-then-is_err c =
    let v = c.args.view.now in
    let f = (goal.at.returns-then-is_err c).After-finish-looked in
    let refused = ap is_err (sym (answered f)) ∙ sym c.is_err.ensures.value ∙ c.if-is_err.true in
    query_collected (of_view call_of v) (asked f) (answered f)
    (c.clear-then-is_err.ensures
    ∙ refused_words v.store (asked f) (lent f) (fitting (lent f) (blocks f)) (length c.collect-collected.new.out) refused
    ∙ ap (λ (n : ℕ). answer_words n (fitting (lent f) (blocks f))) (c.collect-collected.auto.out ∙ c.clear.auto.t))

pub returns-else-is_err : goal.returns-else-is_err
returns-else-is_err c =
    let v = c.args.view.now in
    let f = (goal.at.returns-else-is_err c).After-finish-looked in
    let fits = ap is_err (sym (answered f)) ∙ sym c.is_err.ensures.value ∙ c.if-is_err.false in
    query_collected (of_view call_of v) (asked f) (answered f)
    (answered_words v.store (asked f) (lent f) (blocks f) c.collect-collected.new.out (ap (λ (n : ℕ). n / 8) (sym (c.collect-collected.auto.out ∙ c.clear.auto.t)))
    c.collect-collected.ensures.holds_rows fits
    ∙ ap (λ (n : ℕ). answer_words n (fitting (lent f) (blocks f))) (c.collect-collected.auto.out ∙ c.clear.auto.t))
