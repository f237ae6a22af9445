-- The answer of the call, by its checks and by what the search found. Assumes nothing.
use mathlib.Core.Path.{◌≡◌, sym, ap, ap₂, ◌∙◌}
use mathlib.Core.Bool.{Bool, true}
use mathlib.Core.List.{List, []}
use Prim.Native.Nat.{ℕ, ◌≤◌, ◌<◌}
use lib.Dec.{leb}
use borrow.Author.Tests.{le-leb, lt-leb}
use Rattle.std.proofs.Common.{Some, None, Result, Ok, Err}
use Rattle.laws.specs.Pick.{pick}
use Rattle.laws.specs.Parse.{Res, got, answer}
use Rattle.refusal.specs.declared.Refusal.{Refusal}
use Rattle.refusal.specs.declared.Refusal.TheVariants.{Block, Rows}
use Rattle.refusal.specs.Refusals.{refusal_of, checked, as_refused}
use Rattle.wal_position.proofs.Checks.{refused_by, passed_by}
use Rattle.types.specs.declared.BlockReference.{BlockReference}
use Rattle.types.specs.Records.{BlockValue, block}
use Rattle.bincode.specs.Answers.{decoded_as}
use Rattle.bincode.proofs.Found.{told_as, told_none}
use Rattle.blocks.specs.declared.StatementBlock.{StatementBlock}
use Rattle.blocks.specs.Answers.{statement_block}
use Rattle.store.specs.declared.BlockStore.{BlockStore}
use Rattle.wal_position.specs.Logs.{of_log}
use Rattle.store.specs.declared.StoreView.{StoreView}
use Rattle.store.specs.Views.{of_view, view_check}
use Rattle.store.specs.Store.{indexed}
use Rattle.query.specs.Query.{counted}
use Rattle.linked.specs.declared.LinkedAnswer.{LinkedAnswer}
use Rattle.reach.specs.declared.Searched.{Searched}
use Rattle.reach.specs.Blocks.{Indexed, Reads, read_blocks}
use Rattle.includes.specs.References.{same}
use Rattle.linked.specs.Chains.{reaches, is_ancestor}
use Rattle.linked.specs.Linked.{down_to, linked_of, looked_up, linked_answer}
use Rattle.includes.specs.Includes.{includes_of, Parses}
use Rattle.reach.specs.Reaching.{searched_of}
use Rattle.linked.proofs.Searching.{Answered, told_failed, told_all}

module _ (view : StoreView) (bytes : List ℕ) (earlier : BlockReference) (lent : ℕ) where
  abbrev store : BlockStore
  store = view.store

  abbrev index_rows : List (List ℕ)
  index_rows = indexed store view.index.now

  abbrev reads : List (List ℕ) → Reads
  reads = of_log read_blocks view.log

  abbrev answered : Result LinkedAnswer Refusal
  answered = of_view linked_answer view bytes earlier lent

  -- the answer for a later block that decodes
  of_later : BlockValue → Result LinkedAnswer Refusal
  of_later later =
      pick (leb store.rows lent)
      (linked_of store (looked_up later earlier index_rows) later earlier (reads (looked_up later earlier index_rows)))
      (as_refused 15)

  pub refused_call : {r : Refusal} → Err r ≡ checked (view_check view) → Err r ≡ answered
  unfolding linked_answer
  refused_call h = refused_by (view_check view) _ h

  module _ (passes : Ok tt ≡ checked (view_check view)) where
    goes_past : answered ≡ answer (as_refused 9) (λ (later : BlockValue) e. of_later later) (block bytes 0)
    unfolding linked_answer of_later
    goes_past = sym (passed_by (view_check view) _ passes)

    pub refused_later : None ≡ decoded_as (λ b e. statement_block 0 b) (block bytes 0) → Err Block ≡ answered
    unfolding answer refusal_of pick
    refused_later none = sym (goes_past ∙ rw (told_none (λ b e. statement_block 0 b) (block bytes 0) none))

    module _ {d : StatementBlock} {end : ℕ} (decoded : Some (d, end) ≡ decoded_as (λ b e. statement_block 0 b) (block bytes 0)) where
      -- the later block
      this : BlockValue
      this = (told_as (λ b e. statement_block 0 b) (block bytes 0) decoded).0

      is_this : block bytes 0 ≡ got this end
      unfolding this
      is_this = (told_as (λ b e. statement_block 0 b) (block bytes 0) decoded).1

      refers : d.reference ≡ this.reference
      unfolding this
      refers = ap (λ (d : StatementBlock). d.reference) (told_as (λ b e. statement_block 0 b) (block bytes 0) decoded).2

      pub later_parses : Parses bytes
      later_parses = (this, end, is_this)

      goes_on : answered ≡ of_later this
      unfolding answer
      goes_on = goes_past ∙ ap (answer (as_refused 9) (λ (later : BlockValue) e. of_later later)) is_this

      pub refused_few : lent < store.rows → Err Rows ≡ answered
      unfolding of_later pick refusal_of
      refused_few few = sym (goes_on ∙ rw (lt-leb store.rows lent few))

      module _ (enough : store.rows ≤ lent) {found : Result Searched Refusal}
          (search : Answered view.log.exponent view.log.image.now view.log.used earlier d.reference.round (includes_of bytes) index_rows found) where
        -- the rows that are looked up
        rows : List (List ℕ)
        rows = looked_up this earlier index_rows

        searched : found ≡ searched_of (λ blocks. reaches blocks earlier this.reference.round this.includes) rows (reads rows)
        unfolding rows looked_up includes_of answer
        searched =
            search
            ∙ ap₂ (λ (r : BlockReference) (x : Res BlockValue).
            searched_of (λ blocks. reaches blocks earlier r.round (answer [] (λ (b : BlockValue) e. b.includes) x))
            (down_to earlier.round r.round index_rows)
            (reads (down_to earlier.round r.round index_rows))) refers is_this

        looks : answered ≡ linked_of store rows this earlier (reads rows)
        unfolding of_later rows pick
        looks = goes_on ∙ rw (le-leb store.rows lent enough)

        pub refused_search : {r : Refusal} → Err r ≡ found → Err r ≡ answered
        unfolding linked_of
        refused_search fails =
            let told = told_failed _ rows _ (fails ∙ searched) in
            ap Err told.2 ∙ sym (looks ∙ ap (linked_of store rows this earlier) told.1)

        pub linked_answer_lem : {r : Searched} → Ok r ≡ found → {l : Bool} → l ≡ pick (same d.reference earlier) true r.found
            → {t : BlockStore} → t ≡ counted store r.unloaded → Ok (record { linked = l; store = t }) ≡ answered
        unfolding linked_of is_ancestor
        linked_answer_lem passes {l} truth {t} loads =
            let told = told_all _ rows _ (passes ∙ searched) in
            let blocks : List Indexed = told.0 in
            let is : l ≡ is_ancestor blocks this earlier =
            truth ∙ ap₂ (λ (r : BlockReference) (f : Bool). pick (same r earlier) true f) refers told.3 in
            ap₂ (λ (l : Bool) (t : BlockStore). Ok (record { linked = l; store = t })) is (loads ∙ ap (counted store) told.2)
            ∙ sym (looks ∙ ap (linked_of store rows this earlier) told.1)
