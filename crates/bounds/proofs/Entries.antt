-- What an entry that is classified holds: the round of its block is a number of 8 bytes, and each reference in its commits has 16 bytes of
-- its payload. Assumes nothing.
use mathlib.Core.Path.{◌≡◌, refl, ap}
use mathlib.Core.List.{List, [], ◌∷◌, ◌++◌, append-nil}
use mathlib.Core.Option.{none, some}
use Prim.Native.Nat.{ℕ, ◌+◌, ◌*◌, ◌^◌, ◌≤◌, ◌<◌}
use native.Mathlib.Omega.{arith}
use lib.ListN.{length, length-append}
use Rattle.laws.specs.Bytes.{AllBytes}
use Rattle.laws.specs.Parse.{Res, bad, got, Parser, joined, answer}
use Rattle.laws.proofs.LittleEndian.{length_le}
use Rattle.bincode.specs.Bincode.{vec_bytes}
use Rattle.types.specs.declared.BlockReference.{BlockReference}
use Rattle.types.specs.Records.{BlockValue, reference_bytes}
use Rattle.commits.specs.Records.{OwnBlockValue, CommitValue, CommitsValue, commit_data_bytes, commit_bytes}
use Rattle.roundtrip.specs.Valid.{ValidReference}
use Rattle.roundtrip.proofs.Inverse.{Inverse}
use Rattle.roundtrip.proofs.Blocks.{block_inverse}
use Rattle.roundtrip.proofs.Commits.{own_block_inverse, commit_inverse}
use Rattle.wal_reader.specs.Entries.{Entry}
use Rattle.replay.specs.Items.{Item, is_block, is_own_block, is_commit, Classified, refuse, item, classify, ReplayEntry, block_in}
use Rattle.replay.specs.Rules.{gather, commits_in, commits}
use Rattle.replay.proofs.Applied.{gather_append}
use Rattle.bounds.proofs.Counts.{either, sub_dags}

-- ---- The bytes of references

-- where each element has 16 bytes for each row that it adds
joined_least : {A : Type 0} (layout : A → List ℕ) (rows : List A → ℕ) → rows [] ≡ 0
    → ((x : A) (xs : List A) → 16 * rows (x ∷ xs) ≤ length (layout x) + 16 * rows xs) → (xs : List A) → 16 * rows xs ≤ length (joined layout xs)
unfolding joined
joined_least layout rows empty step [] = omega arith
joined_least layout rows empty step (x ∷ xs) =
    omega (arith, step x xs, joined_least layout rows empty step xs, length-append (layout x) (joined layout xs))

reference_least : (r : BlockReference) → 16 ≤ length (reference_bytes r)
unfolding reference_bytes
reference_least r = simp (length-append, length_le) (omega arith)

sub_dag_least : (c : CommitValue) → 16 * length c.sub_dag ≤ length (commit_data_bytes c)
unfolding commit_data_bytes vec_bytes
sub_dag_least c =
    let least = joined_least reference_bytes length refl (λ r rs. omega (arith, reference_least r)) c.sub_dag in
    simp length-append (omega arith)

commit_least : (c : CommitsValue) → 16 * length (sub_dags c.commits) ≤ length (commit_bytes c)
unfolding commit_bytes vec_bytes gather
commit_least c =
    let least =
    joined_least commit_data_bytes (λ cs. length (sub_dags cs)) refl
    (λ d ds. omega (arith, sub_dag_least d, length-append d.sub_dag (sub_dags ds))) c.commits in
    simp length-append (omega arith)

-- ---- What an entry holds

pub references_more : (l m : List ReplayEntry) → sub_dags (commits (l ++ m)) ≡ sub_dags (commits l) ++ sub_dags (commits m)
unfolding commits
references_more l m = simp gather_append

pub record Fits (x : ReplayEntry) : Type 0 where
  pub round : (r : BlockReference) → block_in x.item ≡ some r → r.round < 2 ^ 64
  pub references : 16 * length (sub_dags (commits (x ∷ []))) ≤ length x.entry.payload

-- 12 is the highest number with which an entry is refused by itself
abbrev pub Sized : Entry → Classified → Type 0
Sized a (refuse n) = n ≤ 12
Sized a (item i) = AllBytes a.payload → Fits (record { entry = a; item = i })

refers : {r : BlockReference} → ValidReference r → (q : BlockReference) → some r ≡ some q → q.round < 2 ^ 64
refers {r} valid q is =
    let same : r ≡ q = cc in
    omega (arith, valid.round, ap (λ (x : BlockReference). x.round) same)

no_block_lem : (q : BlockReference) → none ≡ some q → q.round < 2 ^ 64
no_block_lem q is = let z : ◌≡◌ {A = ℕ} 0 1 = cc in absurd (omega arith)

module _ (a : Entry) where
  -- an item that is made of what a parser found
  answered : {A : Type 0} {f : Parser A} {layout : A → List ℕ} {Valid : A → Type 0} → Inverse f layout Valid → {n : ℕ} → n ≤ 12
      → (make : A → Item) → ((v : A) → Valid v → length (layout v) ≤ length a.payload → Fits (record { entry = a; item = make v }))
      → Sized a (answer (refuse n) (λ v e. item (make v)) (f a.payload 0))
  unfolding answer
  answered {A} {f} inverse {n} low make fits = by (f a.payload 0) refl
    where
      by : (x : Res A) → f a.payload 0 ≡ x → Sized a (answer (refuse n) (λ v e. item (make v)) x)
      by bad h = low
      by (got v e) h =
          λ all. let l = inverse.encoded all h in fits v l.valid (omega (arith, l.spans.end, l.spans.within))

  pub classify_sized : Sized a (classify a)
  unfolding classify block_in commits_in commits gather
  classify_sized =
      either (Sized a) _
      (answered block_inverse (omega arith) (λ (b : BlockValue). is_block b.reference)
      (λ b v n. record { round = refers v.reference; references = omega arith }))
      (either (Sized a) _ (λ all. record { round = no_block_lem; references = omega arith })
      (either (Sized a) _
      (answered own_block_inverse (omega arith) (λ (o : OwnBlockValue). is_own_block o.next_entry o.block.reference)
      (λ o v n. record { round = refers v.block.reference; references = omega arith }))
      (either (Sized a) _ (λ all. record { round = no_block_lem; references = omega arith })
      (either (Sized a) _
      (answered commit_inverse (omega arith) is_commit
      (λ c v n. record { round = no_block_lem; references = rw append-nil (omega (arith, commit_least c)) }))
      (omega arith)))))
