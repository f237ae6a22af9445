-- What holds of the block in each entry holds of every block of the index. Assumes nothing.
use mathlib.Core.Path.{◌≡◌, refl, sym, ap, ◌∙◌, subst}
use mathlib.Core.List.{List, [], ◌∷◌, ◌++◌, append-nil, append_assoc}
use mathlib.Core.Logic.{⊎_elim}
use mathlib.Core.Option.{Option, none, some}
use Prim.Native.Nat.{ℕ, ◌<◌}
use native.Mathlib.Omega.{arith}
use borrow.Author.Tests.{ne_eqb}
use Rattle.laws.specs.Pick.{pick}
use Rattle.laws.specs.Bytes.{AllBytes}
use Rattle.laws.specs.Parse.{Res, bad, got, answer}
use Rattle.laws.proofs.AllBytes.{bytes_part}
use Rattle.laws.proofs.Tests.{leb_cases, eqb_cases}
use Rattle.types.specs.declared.BlockReference.{BlockReference}
use Rattle.types.specs.Records.{BlockValue, block}
use Rattle.commits.specs.Records.{OwnBlockValue, own_block}
use Rattle.wal_reader.specs.Entries.{Entry}
use Rattle.wal_reader.specs.Answers.{payload_of}
use Rattle.rows.proofs.Lexicographic.{order_cases}
use Rattle.index.specs.Keys.{Digested}
use Rattle.replay.specs.Items.{Item, is_block, is_own_block, Classified, refuse, item, classify, ReplayEntry, block_in}
use Rattle.replay.specs.Rules.{gather, Block, blocks_in, blocks, set_of, index}
use Rattle.replay.specs.Recovery.{block_check}
use Rattle.replay.proofs.Sets.{order}
use Rattle.replay.proofs.Applied.{insert_row, insert_row_below, insert_row_equal, insert_row_above, references, index_same, index_block}
use Rattle.state.specs.Holding.{AllDigested}
use Rattle.state.proofs.Digests.{block_digested, own_digested}
use Rattle.cut.specs.Cut.{AllStand}
use Rattle.reopened.proofs.Classifying.{read_of, reads_of, read_refused, read_classified}
use Rattle.reopened.proofs.Agreeing.{item_no_block, HoldsBlock}
use Rattle.reopened.proofs.Refusing.{AllFine}

-- ---- The block of an entry, as the rules have it

module _ (x : ReplayEntry) where
  block_none : block_in x.item ≡ none → blocks_in x ≡ []
  unfolding blocks_in
  block_none e = rw (e, blocks_in)

  block_some : {r : BlockReference} → block_in x.item ≡ some r → blocks_in x ≡ record { reference = r; position = x.entry.start } ∷ []
  unfolding blocks_in
  block_some e = rw (e, blocks_in)

-- ---- Lists of blocks

abbrev pub Every : (Block → Type 0) → List Block → Type 0
Every Q [] = Unit {0}
Every Q (b ∷ rest) = Q b × Every Q rest

pub every_digested : (bs : List Block) → Every (λ (b : Block). Digested b.reference) bs → AllDigested (references bs)
every_digested [] h = tt
every_digested (b ∷ bs) h = (h.0, every_digested bs h.1)

module _ (Q : Block → Type 0) where
  every_insert_row : (b : Block) (bs : List Block) → Q b → Every Q bs → Every Q (insert_row b bs)
  unfolding insert_row
  every_insert_row b [] q h = (q, tt)
  every_insert_row b (x ∷ bs) q h =
      ⊎_elim
      (λ l. subst (Every Q) (sym (insert_row_below b x bs l)) (q, h))
      (⊎_elim
      (λ e. subst (Every Q) (sym (insert_row_equal b x bs e)) (q, h.1))
      (λ g. subst (Every Q) (sym (insert_row_above b x bs g)) (h.0, every_insert_row b bs q h.1)))
      (order_cases (order b.reference x.reference))

  -- ---- Entries

  -- whatever block an entry holds
  abbrev pub OfBlock : Entry → Type 0
  OfBlock a = (i : Item) (r : BlockReference) → classify a ≡ item i → block_in i ≡ some r → Q (record { reference = r; position = a.start })

  abbrev pub OfBlocks : List Entry → Type 0
  OfBlocks [] = Unit {0}
  OfBlocks (a ∷ later) = OfBlock a × OfBlocks later

  pub blocks_one : (entries : List Entry) (a : Entry) → OfBlocks entries → OfBlock a → OfBlocks (entries ++ (a ∷ []))
  blocks_one [] a h p = (p, tt)
  blocks_one (b ∷ entries) a h p = (h.0, blocks_one entries a h.1 p)

  pub no_block_holds : (a : Entry) → (a.tag ≡ 1 → ⊥) → (a.tag ≡ 3 → ⊥) → OfBlock a
  no_block_holds a one three i r is there =
      let both : none ≡ some r = sym (item_no_block a one three is) ∙ there in
      let z : ◌≡◌ {A = ℕ} 0 1 = cc in
      absurd (omega arith)

  -- of the block that an entry is known to hold
  pub held_holds : {a : Entry} {r : BlockReference} → HoldsBlock a r → Q (record { reference = r; position = a.start }) → OfBlock a
  held_holds {a} {r} held q i x is there =
      let both : item held.item ≡ item i = sym held.is ∙ is in
      let same : held.item ≡ i = cc in
      let reference : some r ≡ some x = sym held.holds ∙ ap block_in same ∙ there in
      let refers : r ≡ x = cc in
      subst (λ (r : BlockReference). Q (record { reference = r; position = a.start })) refers q

  -- one more joins the index
  index_one : (l : List ReplayEntry) (a : Entry) → OfBlock a → Every Q (index l) → Every Q (index (l ++ read_of a))
  index_one l a h all = from (classify a) refl
    where
      held : (i : Item) (o : Option BlockReference) → classify a ≡ item i → block_in i ≡ o → Every Q (index (l ++ (record { entry = a; item = i } ∷ [])))
      held i none e f =
          let x : ReplayEntry = record { entry = a; item = i } in
          subst (Every Q) (sym (index_same l x (block_none x f))) all
      held i (some r) e f =
          let x : ReplayEntry = record { entry = a; item = i } in
          let b : Block = record { reference = r; position = a.start } in
          subst (Every Q) (sym (index_block l x b (block_some x f))) (every_insert_row b (index l) (h i r e f) all)

      from : (j : Classified) → classify a ≡ j → Every Q (index (l ++ read_of a))
      from (refuse n) e = subst (λ (m : List ReplayEntry). Every Q (index m)) (sym (ap (λ (m : List ReplayEntry). l ++ m) (read_refused a e) ∙ append-nil l)) all
      from (item i) e = subst (λ (m : List ReplayEntry). Every Q (index m)) (ap (λ (m : List ReplayEntry). l ++ m) (sym (read_classified a e))) (held i (block_in i) e refl)

  index_all : (l : List ReplayEntry) (entries : List Entry) → OfBlocks entries → Every Q (index l) → Every Q (index (l ++ reads_of entries))
  unfolding reads_of gather
  index_all l [] h all = subst (λ (m : List ReplayEntry). Every Q (index m)) (sym (append-nil l)) all
  index_all l (a ∷ later) h all =
      subst (λ (m : List ReplayEntry). Every Q (index m)) (append_assoc l (read_of a) (gather read_of later))
      (index_all (l ++ read_of a) later h.1 (index_one l a h.0 all))

  pub index_every : (entries : List Entry) → OfBlocks entries → Every Q (index (reads_of entries))
  unfolding index blocks gather set_of
  index_every entries h = index_all [] entries h tt

-- ---- The block in an entry, by how it is classified

pub data InEntry (a : Entry) (r : BlockReference) : Type 0 where
  as_block : a.tag ≡ 1 → (b : BlockValue) (e : ℕ) → block a.payload 0 ≡ got b e → b.reference ≡ r → InEntry a r
  as_own : a.tag ≡ 3 → (o : OwnBlockValue) (e : ℕ) → own_block a.payload 0 ≡ got o e → o.block.reference ≡ r → InEntry a r

-- an item that is made of what a parser found
made_found : {A : Type 0} (x : Res A) (n : ℕ) (make : A → Item) (refers : A → BlockReference) → ((v : A) → block_in (make v) ≡ some (refers v))
    → (i : Item) (r : BlockReference) → answer (refuse n) (λ v e. item (make v)) x ≡ item i → block_in i ≡ some r
    → (v : A) × (e : ℕ) × (x ≡ got v e) × (refers v ≡ r)
unfolding answer
made_found bad n make refers holds i r is there = let z : ◌≡◌ {A = ℕ} 0 1 = cc in absurd (omega arith)
made_found (got v e) n make refers holds i r is there =
    let made : make v ≡ i = cc in
    let same : some (refers v) ≡ some r = sym (holds v) ∙ ap block_in made ∙ there in
    (v, e, refl, cc)

pub classified_in : (a : Entry) (i : Item) (r : BlockReference) → classify a ≡ item i → block_in i ≡ some r → InEntry a r
unfolding classify pick block_in
classified_in a i r is there =
    ⊎_elim
    (λ one.
    let f =
    made_found (block a.payload 0) 9 (λ (b : BlockValue). is_block b.reference) (λ b. b.reference) (λ b. refl) i r (rw one.0 at is) there in
    as_block one.1 f.0 f.1 f.2 f.3)
    (λ not_one.
    ⊎_elim
    (λ three.
    let not_two : a.tag ≡ 2 → ⊥ = λ two. omega (arith, three.1) in
    let f =
    made_found (own_block a.payload 0) 10 (λ (o : OwnBlockValue). is_own_block o.next_entry o.block.reference) (λ o. o.block.reference) (λ o. refl)
    i r (rw (not_one.0, ne_eqb a.tag 2 not_two, three.0) at is) there in
    as_own three.1 f.0 f.1 f.2 f.3)
    (λ not_three.
    let both : none ≡ some r = sym (item_no_block a not_one.1 not_three.1 is) ∙ there in
    let z : ◌≡◌ {A = ℕ} 0 1 = cc in
    absurd (omega arith))
    (eqb_cases a.tag 3))
    (eqb_cases a.tag 1)

-- ---- 13: the authority is below the size

check_below : (size own : ℕ) (before : List Block) (r : BlockReference) → block_check size own before (some r) ≡ 0 → r.authority < size
unfolding block_check pick
check_below size own before r passed =
    ⊎_elim
    (λ t. let number : block_check size own before (some r) ≡ 13 = rw t.0 in absurd (omega arith))
    (λ f. f.1)
    (leb_cases size r.authority)

pub fine_below : (size own : ℕ) (before : List ReplayEntry) (later : List Entry) → AllFine size own before later
    → OfBlocks (λ (b : Block). b.reference.authority < size) later
fine_below size own before [] h = tt
fine_below size own before (a ∷ later) h =
    ((λ i r is holds. check_below size own (blocks before) r (ap (block_check size own (blocks before)) (sym holds) ∙ h.0.passes i is)), fine_below size own (before ++ read_of a) later h.1)

-- ---- Digests: a payload of bytes has digests of bytes

abbrev pub AllPayloads : List Entry → Type 0
AllPayloads [] = Unit {0}
AllPayloads (a ∷ later) = AllBytes a.payload × AllPayloads later

abbrev pub OfBytes : Block → Type 0
OfBytes b = Digested b.reference

-- in a log of bytes
pub stand_bytes : (k : ℕ) (s : List ℕ) (used : ℕ) → AllBytes s → (entries : List Entry) → AllStand k s used entries → AllPayloads entries
unfolding payload_of
stand_bytes k s used all [] h = tt
stand_bytes k s used all (a ∷ later) h = (subst AllBytes h.0.payload (bytes_part s _ _ all), stand_bytes k s used all later h.1)

entry_digested : (a : Entry) → AllBytes a.payload → OfBlock OfBytes a
entry_digested a all i r is there = from (classified_in a i r is there)
  where
    from : InEntry a r → Digested r
    from (as_block one b e decodes same) = subst Digested same (block_digested a.payload all 0 decodes)
    from (as_own three o e decodes same) = subst Digested same (own_digested a.payload all 0 decodes)

pub entries_digested : (entries : List Entry) → AllPayloads entries → OfBlocks OfBytes entries
entries_digested [] h = tt
entries_digested (a ∷ later) h = (entry_digested a h.0, entries_digested later h.1)
