-- What a read gives: the block of an entry's payload, which lies in the image. Assumes nothing.
use mathlib.Core.Path.{◌≡◌, refl, sym, ap, subst}
use mathlib.Core.Bool.{Bool, true, false}
use mathlib.Core.List.{List}
use Prim.Native.Nat.{ℕ, ◌+◌, ◌-◌, ◌≤◌}
use native.Mathlib.Omega.{arith}
use lib.Dec.{eqb}
use lib.ListN.{length}
use Rattle.laws.specs.Pick.{pick}
use Rattle.laws.specs.Bytes.{bytes_at}
use Rattle.laws.specs.Parse.{Res, bad, answer}
use Rattle.laws.specs.Parse as parse
use Rattle.std.proofs.Common.{Ok}
use Rattle.laws.proofs.Written.{length_bytes_at}
use Rattle.types.specs.Records.{BlockValue, block}
use Rattle.commits.specs.Records.{OwnBlockValue, own_block}
use Rattle.wal_reader.specs.Read as read
use Rattle.wal_reader.specs.Read.{found, read_at}
use Rattle.wal_reader.specs.Answers.{entry_of, found_of}
use Rattle.block_reader.specs.declared.ReadBlock.{ReadBlock}
use Rattle.block_reader.specs.Reading.{BlockRead, refused, got, plain_block, own_block_at, block_in, block_at, read_of}
use Rattle.block_reader.proofs.Reading.{own_eight, read_within, read_found, told_got}

-- ---- What holds of every refusal, and of the block of every payload that lies in the image, holds of what is read

module _ (P : BlockRead → Type 0) (none : (n : ℕ) → P (refused n)) where
  pick_holds : (t : Bool) {x y : BlockRead} → P x → P y → P (pick t x y)
  unfolding pick
  pick_holds true h g = h
  pick_holds false h g = g

  answer_holds : {A : Type 0} (x : Res A) (n : ℕ) (f : A → ℕ → BlockRead) → ((a : A) (e : ℕ) → x ≡ parse.Res.got a e → P (f a e))
      → P (answer (refused n) f x)
  unfolding answer
  answer_holds bad n f h = none n
  answer_holds (parse.Res.got a e) n f h = h a e refl

  module _ (s : List ℕ)
      (plain : (at n : ℕ) → at + n ≤ length s → (b : BlockValue) (e : ℕ) → block (bytes_at s at n) 0 ≡ parse.Res.got b e → P (got b.reference at n))
      (own : (at n : ℕ) → at + n ≤ length s → (o : OwnBlockValue) (e : ℕ) → own_block (bytes_at s at n) 0 ≡ parse.Res.got o e
      → P (got o.block.reference (at + 8) (n - 8))) where
    entry_holds : (start tag n : ℕ) → start + 16 + n ≤ length s
        → P (block_in (record { start = start; tag = tag; payload = bytes_at s (start + 16) n }))
    unfolding block_in plain_block own_block_at
    entry_holds start tag n h =
        let t : List ℕ = bytes_at s (start + 16) n in
        let long : n ≡ length t = sym (length_bytes_at s (start + 16) n h) in
        pick_holds (eqb tag 1)
        (answer_holds (block t 0) 9 _ (λ b e is. subst (λ (m : ℕ). P (got b.reference (start + 16) m)) long (plain (start + 16) n h b e is)))
        (pick_holds (eqb tag 3)
        (answer_holds (own_block t 0) 10 _ (λ o e is. subst (λ (m : ℕ). P (got o.block.reference (start + 16 + 8) (m - 8))) long (own (start + 16) n h o e is)))
        (none 8))

    pub read_holds : (k used p : ℕ) → P (block_at k s used p)
    unfolding block_at found_of entry_of
    read_holds k used p = by (read_at k s used p) refl
      where
        by : (x : read.Read) → read_at k s used p ≡ x → P (block_at k s used p)
        by (read.Read.refused n) is = rw is (none n)
        by (found a) is =
            subst P (read_found k s used p {e = entry_of a} (sym (ap found_of is)))
            (entry_holds a.start a.tag (length a.payload) (read_within k s used p {e = entry_of a} (sym (ap found_of is))).0)

-- ---- Where its bytes end

abbrev EndsBy : ℕ → BlockRead → Type 0
EndsBy m (refused n) = Unit {0}
EndsBy m (got r at n) = at + n ≤ m

module _ (k : ℕ) (s : List ℕ) (used p : ℕ) {b : ReadBlock} (is : Ok b ≡ read_of (block_at k s used p)) where
  pub block_got : block_at k s used p ≡ got b.reference b.bytes.at b.bytes.left
  block_got = told_got (block_at k s used p) is

  pub block_within : b.bytes.at + b.bytes.left ≤ length s
  block_within =
      subst (EndsBy (length s)) block_got
      (read_holds (EndsBy (length s)) (λ n. tt) s (λ at n h b e i. h)
      (λ at n h o e i. omega (arith, own_eight (bytes_at s at n) i, length_bytes_at s at n h)) k used p)
