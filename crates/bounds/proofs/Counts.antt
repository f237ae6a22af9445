-- How many rows each table has: at most one for each entry, or for each reference in a commit. Assumes nothing.
use mathlib.Core.Path.{◌≡◌, refl}
use mathlib.Core.Bool.{Bool, true, false}
use mathlib.Core.List.{List, [], ◌∷◌, map}
use mathlib.Core.Logic.{⊎_elim}
use mathlib.Core.Option.{Option, none, some}
use Prim.Native.Nat.{ℕ, suc, ◌*◌, ◌≤◌}
use native.Mathlib.Omega.{arith}
use lib.ListN.{length, length-append, length-map}
use Rattle.laws.specs.Pick.{pick}
use Rattle.types.specs.declared.BlockReference.{BlockReference}
use Rattle.commits.specs.Records.{CommitValue}
use Rattle.wal_reader.specs.Entries.{Entry}
use Rattle.rows.proofs.Lexicographic.{order_cases}
use Rattle.replay.specs.Items.{ReplayEntry, block_in}
use Rattle.replay.specs.Rules.{gather, pending, state_in, state_of, after_state, Block, blocks_in, blocks, unprocessed, insert, set_of, commits, committed, index}
use Rattle.replay.proofs.Sets.{order, insert_below, insert_equal, insert_above}
use Rattle.bounds.specs.Bounds.{Few}

-- what holds of both holds of the one that the test picks
pub either : {A : Type 0} (P : A → Type 0) (t : Bool) {x y : A} → P x → P y → P (pick t x y)
unfolding pick
either P true h g = h
either P false h g = g

-- what is pending with one entry more in front: the entry too, or not
pub pending_either : (P : List ReplayEntry → Type 0) (x : ReplayEntry) (l : List ReplayEntry) → P (x ∷ pending l) → P (pending l) → P (pending (x ∷ l))
unfolding pending
pending_either P x l with_it without = either P _ (either P _ with_it without) without

pub pending_few : (l : List ReplayEntry) → length (pending l) ≤ length l
unfolding pending
pending_few [] = omega arith
pending_few (x ∷ l) =
    let rest = pending_few l in
    pending_either (λ m. length m ≤ suc (length l)) x l (omega arith) (omega arith)

after_state_few : (l : List ReplayEntry) → length (after_state l) ≤ length l
unfolding after_state
after_state_few [] = omega arith
after_state_few (x ∷ l) = by (state_of l) refl (state_in x) refl (after_state_few l)
  where
    by : (o : Option Entry) → state_of l ≡ o → (p : Option Entry) → state_in x ≡ p → length (after_state l) ≤ length l
        → length (after_state (x ∷ l)) ≤ suc (length l)
    by (some a) h p g rest = rw h (omega arith)
    by none h (some a) g rest = rw (h, g) (omega arith)
    by none h none g rest = rw (h, g) (omega arith)

one_block : (x : ReplayEntry) → length (blocks_in x) ≤ 1
unfolding blocks_in
one_block x = by (block_in x.item) refl
  where
    by : (o : Option BlockReference) → block_in x.item ≡ o → length (blocks_in x) ≤ 1
    by none e = rw (e, blocks_in) (omega arith)
    by (some r) e = rw (e, blocks_in) (omega arith)

blocks_few : (l : List ReplayEntry) → length (blocks l) ≤ length l
unfolding blocks gather
blocks_few [] = omega arith
blocks_few (x ∷ l) = omega (arith, length-append (blocks_in x) (blocks l), one_block x, blocks_few l)

insert_few : (r : BlockReference) (s : List BlockReference) → length (insert r s) ≤ suc (length s)
unfolding insert
insert_few r [] = omega arith
insert_few r (x ∷ s) =
    ⊎_elim
    (λ b. rw (insert_below r x s b) (omega arith))
    (⊎_elim (λ e. rw (insert_equal r x s e) (omega arith)) (λ a. rw (insert_above r x s a) (omega (arith, insert_few r s))))
    (order_cases (order r x))

set_few : (rs : List BlockReference) → length (set_of rs) ≤ length rs
unfolding set_of
set_few [] = omega arith
set_few (r ∷ rs) = omega (arith, insert_few r (set_of rs), set_few rs)

-- the references in commits
abbrev pub sub_dags : List CommitValue → List BlockReference
sub_dags cs = gather (λ (c : CommitValue). c.sub_dag) cs

-- 16 bytes for each entry, and for each reference in a commit, are enough for the rows of each table
pub few : (used : ℕ) (l : List ReplayEntry) → 16 * length l ≤ used → 16 * length (sub_dags (commits l)) ≤ used → Few used l
unfolding unprocessed committed index
few used l entries references =
    record {
      pending = omega (arith, pending_few l);
      unprocessed = omega (arith, blocks_few (after_state l), after_state_few l);
      committed = omega (arith, set_few (sub_dags (commits l)));
      index = simp length-map (omega (arith, simp length-map at (set_few (map (λ (b : Block). b.reference) (blocks l))), blocks_few l));
    }
