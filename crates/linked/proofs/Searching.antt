-- The search from the later block's round down: what was read above a round, and what is reached from there on. Assumes nothing.
use mathlib.Core.Path.{◌≡◌, refl, sym, ap, ap₂, ◌∙◌, subst}
use mathlib.Core.Bool.{Bool, true, false}
use mathlib.Core.List.{List, [], ◌∷◌, ◌++◌, append_assoc}
use mathlib.Core.Logic.{⊎_elim}
use Prim.Native.Nat.{ℕ, suc, ◌+◌, ◌-◌, ◌≤◌, ◌<◌}
use native.Mathlib.Omega.{arith}
use lib.Dec.{eqb}
use lib.ListN.{get_or}
use borrow.Author.Tests.{ne_eqb}
use Rattle.std.proofs.Common.{Result, Ok, Err}
use Rattle.refusal.specs.declared.Refusal.{Refusal}
use Rattle.refusal.specs.Refusals.{refusal_of}
use Rattle.refusal.specs.Tabled.{Tabled}
use Rattle.laws.specs.Pick.{pick}
use Rattle.laws.proofs.Tests.{eqb_cases}
use Rattle.types.specs.declared.BlockReference.{BlockReference}
use Rattle.block_reader.specs.Reading as reading
use Rattle.block_reader.specs.Reading.{BlockRead, block_at}
use Rattle.filters.specs.Filters.{keep, round_of, by_round}
use Rattle.query.specs.Query.{unloaded}
use Rattle.block_reader.proofs.Reading.{TabledBlock, is_refused, is_got, block_at_tabled}
use Rattle.filters.proofs.Keeping.{keep_yes, keep_no}
use Rattle.reach.specs.declared.Searched.{Searched}
use Rattle.reach.specs.Blocks.{Indexed, Reads, failed, all, also, block_then, read_blocks}
use Rattle.includes.specs.References.{any}
use Rattle.linked.specs.Chains.{reaches}
use Rattle.linked.specs.Linked.{down_to}
use Rattle.reach.specs.Reaching.{next_parents, meets, searched_of}
use Rattle.reach.proofs.Any.{Each, each_weaker, each_append, any_same, any_never}
use Rattle.reach.proofs.Appending.{joined, joined_nothing, joined_joined, reads_append, unloaded_append}
use Rattle.linked.proofs.Rounds.{Before, OfRound, reaches_gap, reaches_none, reaches_round}
use Rattle.includes.proofs.Tests.{or_false, and_false}

-- ---- What was read of a round

-- a property of the blocks that were read
abbrev EachRead : (Indexed → Type 0) → Reads → Type 0
EachRead P (failed n) = Unit {0}
EachRead P (all blocks) = Each P blocks

each_next : (n : ℕ) (s : List ℕ) (round : ℕ) → round ≡ n → (x : BlockRead) (r : Reads) → EachRead (OfRound n) r
    → EachRead (OfRound n) (block_then s round x r)
unfolding block_then also
each_next n s round e (reading.BlockRead.refused m) r h = tt
each_next n s round e (reading.BlockRead.got b at m) (failed f) h = tt
each_next n s round e (reading.BlockRead.got b at m) (all blocks) h = (e, h)

of_round : (k : ℕ) (s : List ℕ) (used n : ℕ) (rows : List (List ℕ)) → EachRead (OfRound n) (read_blocks k s used (by_round n rows))
unfolding read_blocks by_round keep
of_round k s used n [] = tt
of_round k s used n (r ∷ rows) =
    ⊎_elim
    (λ t.
    subst (λ (l : List (List ℕ)). EachRead (OfRound n) (read_blocks k s used l)) (sym (keep_yes (λ r. eqb (round_of r) n) r rows t.0))
    (each_next n s (round_of r) t.1 (block_at k s used (get_or r 6 0)) (read_blocks k s used (by_round n rows)) (of_round k s used n rows)))
    (λ f.
    subst (λ (l : List (List ℕ)). EachRead (OfRound n) (read_blocks k s used l)) (sym (keep_no (λ r. eqb (round_of r) n) r rows f.0))
    (of_round k s used n rows))
    (eqb_cases (round_of r) n)

-- a refusal's number is of document 01's table
abbrev pub TabledReads : Reads → Type 0
TabledReads (failed n) = Tabled n
TabledReads (all blocks) = Unit {0}

tabled_next : (s : List ℕ) (round : ℕ) {x : BlockRead} → TabledBlock x → (r : Reads) → TabledReads r → TabledReads (block_then s round x r)
unfolding block_then also
tabled_next s round (is_refused h) r g = h
tabled_next s round is_got (failed n) g = g
tabled_next s round is_got (all blocks) g = tt

pub reads_tabled : (k : ℕ) (s : List ℕ) (used : ℕ) (rows : List (List ℕ)) → TabledReads (read_blocks k s used rows)
unfolding read_blocks
reads_tabled k s used [] = tt
reads_tabled k s used (r ∷ rows) =
    tabled_next s (round_of r) (block_at_tabled k s used (get_or r 6 0)) (read_blocks k s used rows) (reads_tabled k s used rows)

-- what the search of a round told
module _ (test : List Indexed → Bool) (rows : List (List ℕ)) (x : Reads) where
  pub told_failed : {e : Refusal} → Err e ≡ searched_of test rows x → (n : ℕ) × (x ≡ failed n) × (e ≡ refusal_of n)
  unfolding searched_of
  told_failed is = from x is
    where
      from : (x : Reads) {e : Refusal} → Err e ≡ searched_of test rows x → (n : ℕ) × (x ≡ failed n) × (e ≡ refusal_of n)
      from (failed n) is = (n, refl, cc)
      from (all blocks) is = absurd (cc)

  pub told_all : {r : Searched} → Ok r ≡ searched_of test rows x
      → (blocks : List Indexed) × (x ≡ all blocks) × (r.unloaded ≡ unloaded rows) × (r.found ≡ test blocks)
  unfolding searched_of
  told_all is = from x is
    where
      from : (x : Reads) {r : Searched} → Ok r ≡ searched_of test rows x
          → (blocks : List Indexed) × (x ≡ all blocks) × (r.unloaded ≡ unloaded rows) × (r.found ≡ test blocks)
      from (failed n) is = absurd (cc)
      from (all blocks) {r} is =
          let same : r ≡ record { unloaded = unloaded rows; found = test blocks } = cc in
          (blocks, refl, ap (λ (r : Searched). r.unloaded) same, ap (λ (r : Searched). r.found) same)

-- ---- The search down to a round

-- `parents` are those of the round `above`; u of the blocks read so far were not loaded; `found` tells of the round `above` alone
pub record Searching (k : ℕ) (s : List ℕ) (used : ℕ) (earlier : BlockReference) (high : ℕ) (includes : List BlockReference) (rows : List (List ℕ))
    (above u : ℕ) (found : Bool) (parents : List (List BlockReference)) : Type 0 where
  done : List Indexed
  reads : read_blocks k s used (down_to earlier.round high rows) ≡ joined (all done) (read_blocks k s used (down_to earlier.round above rows))
  loads : unloaded (down_to earlier.round high rows) ≡ u + unloaded (down_to earlier.round above rows)
  truth : (lo : List Indexed) → Each (Before above) lo
      → reaches (done ++ lo) earlier high includes
      ≡ pick (pick found (eqb above earlier.round) false) true (any (reaches lo earlier above) parents)

-- the parents that count: none where the round is not the next one
abbrev pub nearest : ℕ → ℕ → List (List BlockReference) → List (List BlockReference)
nearest above round parents = pick (eqb above (suc round)) parents []

-- what the whole search answers
abbrev pub Answered : ℕ → List ℕ → ℕ → BlockReference → ℕ → List BlockReference → List (List ℕ) → Result Searched Refusal → Type 0
Answered k s used earlier high includes rows o =
    o
    ≡ searched_of (λ blocks. reaches blocks earlier high includes) (down_to earlier.round high rows)
    (read_blocks k s used (down_to earlier.round high rows))

module _ (k : ℕ) (s : List ℕ) (used : ℕ) (earlier : BlockReference) (high : ℕ) (includes : List BlockReference) (rows : List (List ℕ)) where
  pub searching_start : Searching k s used earlier high includes rows high 0 false (includes ∷ [])
  unfolding any pick
  searching_start =
      record {
        done = [];
        reads = sym (joined_nothing (read_blocks k s used (down_to earlier.round high rows)));
        loads = omega arith;
        truth = λ lo h. sym (or_false (reaches lo earlier high includes));
      }

  pub searching_same : {above u u' : ℕ} {found found' : Bool} {parents parents' : List (List BlockReference)}
      → Searching k s used earlier high includes rows above u found parents → u ≡ u' → found ≡ found' → parents ≡ parents'
      → Searching k s used earlier high includes rows above u' found' parents'
  searching_same {above} {u} {u'} {found} {found'} {parents} {parents'} h e f g =
      subst (λ (u : ℕ). Searching k s used earlier high includes rows above u found' parents') e
      (subst (λ (found : Bool). Searching k s used earlier high includes rows above u found parents') f
      (subst (Searching k s used earlier high includes rows above u found) g h))

  module _ {above u : ℕ} {found : Bool} {parents : List (List BlockReference)}
      (h : Searching k s used earlier high includes rows above u found parents) where
    -- no row is left
    pub searched_all : down_to earlier.round above rows ≡ [] → {f : Bool} → f ≡ pick found (eqb above earlier.round) false
        → Answered k s used earlier high includes rows (Ok (record { unloaded = u; found = f }))
    unfolding read_blocks joined unloaded searched_of
    searched_all none {f} is =
        let read : read_blocks k s used (down_to earlier.round high rows) ≡ all (h.done ++ []) =
        h.reads ∙ ap (λ (l : List (List ℕ)). joined (all h.done) (read_blocks k s used l)) none in
        let loads : u ≡ unloaded (down_to earlier.round high rows) = omega (arith, h.loads, ap unloaded none) in
        let truth : f ≡ reaches (h.done ++ []) earlier high includes =
        is
        ∙ sym (or_false (pick found (eqb above earlier.round) false))
        ∙ ap (pick (pick found (eqb above earlier.round) false) true)
        (sym (any_same (λ l. reaches_none earlier above l) parents ∙ any_never parents))
        ∙ sym (h.truth [] tt) in
        ap₂ (λ (u : ℕ) (f : Bool). Ok (record { unloaded = u; found = f })) loads truth
        ∙ sym (ap (searched_of (λ blocks. reaches blocks earlier high includes) (down_to earlier.round high rows)) read)

    -- the next round that has rows
    module _ (round : ℕ) (down : down_to earlier.round above rows ≡ by_round round rows ++ down_to earlier.round round rows) where
      reads_round : read_blocks k s used (down_to earlier.round high rows)
          ≡ joined (all h.done) (joined (read_blocks k s used (by_round round rows)) (read_blocks k s used (down_to earlier.round round rows)))
      reads_round =
          h.reads
          ∙ ap (λ (l : List (List ℕ)). joined (all h.done) (read_blocks k s used l)) down
          ∙ ap (joined (all h.done)) (reads_append k s used (by_round round rows) (down_to earlier.round round rows))

      pub searched_failed : {n : ℕ} → read_blocks k s used (by_round round rows) ≡ failed n
          → Answered k s used earlier high includes rows (Err (refusal_of n))
      unfolding joined searched_of
      searched_failed fails =
          sym (
          ap (searched_of (λ blocks. reaches blocks earlier high includes) (down_to earlier.round high rows)) (
          reads_round
          ∙ ap (λ (r : Reads). joined (all h.done) (joined r (read_blocks k s used (down_to earlier.round round rows)))) fails
          )
          )

      module _ (from : earlier.round ≤ round) (under : round < above) {blocks : List Indexed}
          (read : read_blocks k s used (by_round round rows) ≡ all blocks) where
        these : Each (OfRound round) blocks
        these = subst (EachRead (OfRound round)) read (of_round k s used round rows)

        -- what is reached from the round above
        reached : (lo : List Indexed) → Each (Before round) lo → any (reaches (blocks ++ lo) earlier above) parents
            ≡ pick (pick (meets earlier (nearest above round parents) blocks) (eqb round earlier.round) false) true
            (any (reaches lo earlier round) (next_parents (nearest above round parents) blocks))
        unfolding any pick
        reached lo rest =
            ⊎_elim
            (λ t.
            rw t.0
            (ap (λ (n : ℕ). any (reaches (blocks ++ lo) earlier n) parents) t.1 ∙ reaches_round earlier round blocks lo these rest parents))
            (λ f.
            let e : above ≡ suc (above - 1) = omega arith in
            let before : Each (Before (above - 1)) (blocks ++ lo) =
            each_append (Before (above - 1)) blocks lo (each_weaker (λ b p. omega (arith, f.1)) blocks these) (each_weaker (λ b p. omega arith) lo rest) in
            rw f.0
            (ap (λ (n : ℕ). any (reaches (blocks ++ lo) earlier n) parents) e
            ∙ any_same (λ l. reaches_gap earlier (blocks ++ lo) (above - 1) l before) parents
            ∙ any_never parents
            ∙ reaches_round earlier round blocks lo these rest []))
            (eqb_cases above (suc round))

        pub searching_next : Searching k s used earlier high includes rows round (u + unloaded (by_round round rows))
            (meets earlier (nearest above round parents) blocks) (next_parents (nearest above round parents) blocks)
        unfolding joined pick
        searching_next =
            record {
              done = h.done ++ blocks;
              reads =
                  reads_round
                  ∙ ap (λ (r : Reads). joined (all h.done) (joined r (read_blocks k s used (down_to earlier.round round rows)))) read
                  ∙ joined_joined h.done blocks (read_blocks k s used (down_to earlier.round round rows));
              loads = omega (arith, h.loads, ap unloaded down, unloaded_append (by_round round rows) (down_to earlier.round round rows));
              truth = λ lo rest.
                  let before : Each (Before above) (blocks ++ lo) =
                  each_append (Before above) blocks lo (each_weaker (λ b p. omega arith) blocks these) (each_weaker (λ b p. omega arith) lo rest) in
                  ap (λ (l : List Indexed). reaches l earlier high includes) (append_assoc h.done blocks lo)
                  ∙ h.truth (blocks ++ lo) before
                  ∙ ap (λ (t : Bool). pick t true (any (reaches (blocks ++ lo) earlier above) parents))
                  (and_false found (ne_eqb above earlier.round (λ e. omega arith)))
                  ∙ reached lo rest;
            }
