-- The theorem: every block that the index of a store names is in its log. Assumes nothing.
use mathlib.Core.Path.{◌≡◌, sym, ap, ◌∙◌, subst}
use mathlib.Core.List.{List, [], ◌∷◌, map}
use Prim.Native.Nat.{ℕ, ◌+◌, ◌-◌}
use native.Mathlib.Omega.{arith}
use lib.ListN.{length, get_or}
use lib.Seq.{get_or-set_other}
use borrow.Author.Tests.{eq-eqb, ne_eqb}
use Rattle.laws.specs.Pick.{pick}
use Rattle.laws.specs.Parse.{answer}
use Rattle.types.specs.declared.BlockReference.{BlockReference}
use Rattle.wal_reader.specs.Entries.{Entry}
use Rattle.wal.specs.Walk.{Walk}
use Rattle.wal_reader.specs.Answers.{entry_of, payload_of}
use Rattle.rows.specs.Rows.{key}
use Rattle.index.specs.Keys.{key_words, digest_words, index_row}
use Rattle.replay.specs.Rules.{Block, index}
use Rattle.state.specs.Tables.{block_row}
use Rattle.state.proofs.Rows.{key_block_row}
use Rattle.replay_log.specs.Answers.{index_rows}
use Rattle.store.specs.Store.{indexed}
use Rattle.block_reader.specs.Reading as reading
use Rattle.block_reader.specs.Reading.{BlockRead, got, plain_block, own_block_at, block_at}
use Rattle.block_reader.proofs.Reading.{read_found}
use Rattle.cut.specs.Cut.{LogImage, Stands, AllStand}
use Rattle.reopened.specs.Reopened.{unloaded_row}
use Rattle.reopened.specs.Passing.{There, AllThere, FoundThere}
use Rattle.reopened.proofs.Classifying.{reads_of}
use Rattle.reopened.proofs.Rows.{key_unloaded}
use Rattle.reopened.proofs.References.{Every, OfBlock, OfBlocks, index_every, InEntry, as_block, as_own, classified_in}
use Rattle.cut.proofs.Standing.{walk_stands}
use Rattle.reopened.proofs.Reopened.{Carries, carries}

-- ---- The block in an entry, as a lookup reads it

-- a block with this reference
record GivesReference (x : BlockRead) (r : BlockReference) : Type 0 where
  at : ℕ
  len : ℕ
  is : x ≡ got r at len

read_holds : (a : Entry) {r : BlockReference} → InEntry a r → GivesReference (reading.block_in a) r
unfolding reading.block_in plain_block own_block_at pick answer
read_holds a {r} (as_block one b e decodes same) =
    record {
      at = a.start + 16;
      len = length a.payload;
      is = rw (eq-eqb a.tag 1 one, decodes) (ap (λ (r : BlockReference). got r (a.start + 16) (length a.payload)) same);
    }
read_holds a {r} (as_own three o e decodes same) =
    let not_one : a.tag ≡ 1 → ⊥ = λ one. omega arith in
    record {
      at = a.start + 16 + 8;
      len = length a.payload - 8;
      is =
          rw (ne_eqb a.tag 1 not_one, eq-eqb a.tag 3 three, decodes)
          (ap (λ (r : BlockReference). got r (a.start + 16 + 8) (length a.payload - 8)) same);
    }

-- ---- In the log

module _ (k : ℕ) (log : LogImage) where
  abbrev IsThere : Block → Type 0
  IsThere b = GivesReference (block_at k log.image log.used b.position) b.reference

  entry_there : (a : Entry) → Stands k log.image log.used a → OfBlock IsThere a
  unfolding entry_of payload_of
  entry_there a stands i r is there =
      let same : reading.block_in a ≡ block_at k log.image log.used a.start =
      ap (λ (payload : List ℕ). reading.block_in (record { start = a.start; tag = a.tag; payload = payload })) (sym stands.payload)
      ∙ read_found k log.image log.used a.start {e = entry_of a} (sym stands.reads) in
      subst (λ (x : BlockRead). GivesReference x r) same (read_holds a (classified_in a i r is there))

  entries_there : (entries : List Entry) → AllStand k log.image log.used entries → OfBlocks IsThere entries
  entries_there [] h = tt
  entries_there (a ∷ later) h = (entry_there a h.0, entries_there later h.1)

  -- ---- The rows of blocks, their loaded flags aside

  row_there : (b : Block) → IsThere b → (row : List ℕ) → unloaded_row row ≡ block_row b → There k log row
  unfolding unloaded_row block_row index_row key_words digest_words
  row_there b h row is =
      let position : get_or row 6 0 ≡ b.position = sym (get_or-set_other row 7 6 0 0 (λ e. omega arith)) ∙ ap (λ (r : List ℕ). get_or r 6 0) is in
      record {
        reference = b.reference;
        at = h.at;
        len = h.len;
        reads = ap (block_at k log.image log.used) position ∙ h.is;
        refers = sym (key_block_row b) ∙ ap key (sym is) ∙ key_unloaded row;
      }

  rows_there : (bs : List Block) → Every IsThere bs → (rows : List (List ℕ)) → map unloaded_row rows ≡ map block_row bs → AllThere k log rows
  rows_there bs h [] is = tt
  rows_there [] h (row ∷ rows) is = let z : ◌≡◌ {A = ℕ} 0 1 = cc in absurd (omega arith)
  rows_there (b ∷ bs) h (row ∷ rows) is =
      let first : unloaded_row row ≡ block_row b = cc in
      let others : map unloaded_row rows ≡ map block_row bs = cc in
      (row_there b h.0 row first, rows_there bs h.1 rows others)

pub found_there : FoundThere
unfolding index_rows
found_there k least most size own log s words made =
    let h : Carries k size own log s words = carries k size own least most made in
    let stand : AllStand k log.image log.used h.entries =
    subst (λ (w : Walk). AllStand k log.image log.used w.entries) h.walks (walk_stands k log.image log.used h.sound) in
    rows_there k log (index (reads_of h.entries))
    (index_every (IsThere k log) h.entries (entries_there k log h.entries stand))
    (indexed s words) h.agrees.rows
