-- What a read of a block answers, by what the code found at its position, and that a refusal has a number. Assumes nothing.
use mathlib.Core.Path.{◌≡◌, refl, sym, ap, ◌∙◌, subst}
use mathlib.Core.Bool.{Bool, true, false}
use mathlib.Core.List.{List}
use Prim.Native.Nat.{ℕ, zero, suc, ◌+◌, ◌-◌, ◌^◌, ◌≤◌, ◌<◌}
use native.Mathlib.Omega.{arith}
use lib.Dec.{eqb, lit<}
use lib.ListN.{length}
use borrow.Author.Tests.{eq-eqb, ne_eqb}
use Rattle.laws.specs.Pick.{pick}
use Rattle.laws.specs.Bytes.{bytes_at}
use Rattle.laws.specs.Parse.{Res, bad, answer}
use Rattle.laws.proofs.Parses.{then_found, number_found}
use Rattle.std.proofs.Common.{Some, None, Ok, Err}
use Rattle.refusal.specs.declared.Refusal.{Refusal}
use Rattle.refusal.specs.declared.Refusal.TheVariants.{Tag, Block, OwnBlock}
use Rattle.refusal.specs.Refusals.{refusal_of}
use Rattle.refusal.specs.Tabled.{Tabled}
use Rattle.refusal.proofs.Numbers.{tabled}
use Rattle.bincode.specs.Answers.{decoded_as}
use Rattle.bincode.proofs.Found.{told_none, told_as}
use Rattle.types.specs.Records.{block}
use Rattle.blocks.specs.declared.StatementBlock.{StatementBlock}
use Rattle.blocks.specs.Answers.{statement_block}
use Rattle.commits.specs.declared.OwnBlockData.{OwnBlockData}
use Rattle.commits.specs.Records.{OwnBlockValue, own_block}
use Rattle.commits.specs.Answers.{own_block_of}
use Rattle.wal_position.specs.Checks.{log_check, unless}
use Rattle.wal_reader.specs.Entries.{Entry, end_of}
use Rattle.wal_reader.specs.Look.{Look}
use Rattle.wal_reader.specs.Read as read
use Rattle.wal_reader.specs.Read.{found, read_at}
use Rattle.wal_reader.specs.Answers.{entry_of, payload_of, found_of, read_answer}
use Rattle.wal_reader.specs.declared.WalEntry.{WalEntry}
use Rattle.wal_position.proofs.Checks.{Sound, passed_sound}
use Rattle.wal_reader.proofs.ReadAnswers.{TabledRead, read_no_tabled, read_at_tabled, found_read, checked_whole}
use Rattle.wal.proofs.Walks.{Listed, whole_listed}
use Rattle.wal.proofs.Steps.{payload_named}
use Rattle.block_reader.specs.declared.ReadBlock.{ReadBlock}
use Rattle.block_reader.specs.Reading.{read_of, BlockRead, refused, got, plain_block, own_block_at, block_in, block_at}

-- ---- What the decoders found

module _ (at : ℕ) (payload : List ℕ) where
  pub plain_undecoded : None ≡ decoded_as (λ b e. statement_block 0 b) (block payload 0) → refused 9 ≡ plain_block at payload
  unfolding plain_block answer
  plain_undecoded h = sym (rw (told_none _ (block payload 0) h))

  pub plain_decoded : {d : StatementBlock} {e : ℕ} → Some (d, e) ≡ decoded_as (λ b e. statement_block 0 b) (block payload 0)
      → got d.reference at (length payload) ≡ plain_block at payload
  unfolding plain_block answer
  plain_decoded h =
      let t = told_as _ (block payload 0) h in
      rw t.1 (ap (λ (d : StatementBlock). got d.reference at (length payload)) t.2)

  pub own_undecoded : None ≡ decoded_as (λ o e. own_block_of 0 o) (own_block payload 0) → refused 10 ≡ own_block_at at payload
  unfolding own_block_at answer
  own_undecoded h = sym (rw (told_none _ (own_block payload 0) h))

  pub own_decoded : {d : OwnBlockData} {e : ℕ} → Some (d, e) ≡ decoded_as (λ o e. own_block_of 0 o) (own_block payload 0)
      → got d.block.reference (at + 8) (length payload - 8) ≡ own_block_at at payload
  unfolding own_block_at answer
  own_decoded h =
      let t = told_as _ (own_block payload 0) h in
      rw t.1 (ap (λ (d : OwnBlockData). got d.block.reference (at + 8) (length payload - 8)) t.2)

-- an own block has the 8 bytes of its next entry
pub own_eight : (payload : List ℕ) {o : OwnBlockValue} {e : ℕ} → own_block payload 0 ≡ Res.got o e → 8 ≤ length payload
unfolding own_block
own_eight payload is =
    let next = then_found _ is in
    let counted = number_found 8 payload 0 next.2 in
    omega (arith, counted.end, counted.within)

pub own_long : (payload : List ℕ) {d : OwnBlockData} {e : ℕ} → Some (d, e) ≡ decoded_as (λ o e. own_block_of 0 o) (own_block payload 0) → 8 ≤ length payload
own_long payload h = own_eight payload (told_as _ (own_block payload 0) h).1

-- ---- The block of an entry, by its tag

module _ (a : Entry) where
  pub tag_plain : a.tag ≡ 1 → plain_block (a.start + 16) a.payload ≡ block_in a
  unfolding block_in pick
  tag_plain e = sym (rw (eq-eqb a.tag 1 e))

  pub tag_own : (a.tag ≡ 1 → ⊥) → a.tag ≡ 3 → own_block_at (a.start + 16) a.payload ≡ block_in a
  unfolding block_in pick
  tag_own n e = sym (rw (ne_eqb a.tag 1 n, eq-eqb a.tag 3 e))

  pub tag_other : (a.tag ≡ 1 → ⊥) → (a.tag ≡ 3 → ⊥) → refused 8 ≡ block_in a
  unfolding block_in pick
  tag_other n m = sym (rw (ne_eqb a.tag 1 n, ne_eqb a.tag 3 m))

-- ---- A read

-- what a read that was refused tells
refused_read : (x : read.Read) {r : Refusal} → Err r ≡ found_of x → (n : ℕ) × (x ≡ read.Read.refused n) × (r ≡ refusal_of n)
unfolding found_of
refused_read (found a) h = absurd (cc)
refused_read (read.Read.refused n) h = (n, refl, cc)

module _ (k : ℕ) (s : List ℕ) (used p : ℕ) where
  entry_found : {a : Entry} → read_at k s used p ≡ found a → block_at k s used p ≡ block_in a
  unfolding block_at
  entry_found is = rw is

  pub read_refused : {r : Refusal} → Err r ≡ read_answer k s used p → Err r ≡ read_of (block_at k s used p)
  unfolding block_at read_of
  read_refused h =
      let at = refused_read (read_at k s used p) h in
      rw at.1 (ap Err at.2)

  module _ {e : WalEntry} (h : Ok e ≡ read_answer k s used p) where
    -- the entry lies in the image
    pub read_within : (e.position.0 + 16 + e.len ≤ length s) × (e.position.0 + 16 + e.len ≤ 2 ^ 40)
    unfolding entry_of end_of
    read_within =
        let at = found_read (read_at k s used p) h in
        let both = checked_whole k s used p at.0 at.1 in
        let sound : Sound k used (length s) = passed_sound k used (length s) both.0 in
        let listed : Listed k s used p at.0 = whole_listed both.1 in
        let start : e.position.0 ≡ at.0.start = ap (λ (e : WalEntry). e.position.0) at.2 in
        let long : e.len ≡ length at.0.payload = ap (λ (e : WalEntry). e.len) at.2 in
        let end : at.0.start + (length at.0.payload + 16) ≡ p + _ = listed.ends sound.within in
        (omega (arith, listed.in_used, sound.within), omega (arith, listed.in_used, sound.most))

    -- and its block is the one that is asked for
    pub read_found : block_in (record { start = e.position.0; tag = e.tag; payload = bytes_at s (e.position.0 + 16) e.len }) ≡ block_at k s used p
    unfolding entry_of payload_of
    read_found =
        let at = found_read (read_at k s used p) h in
        let both = checked_whole k s used p at.0 at.1 in
        let sound : Sound k used (length s) = passed_sound k used (length s) both.0 in
        let named : payload_of s (entry_of at.0) ≡ at.0.payload = payload_named sound.within (whole_listed both.1) in
        ap (λ (e : WalEntry). block_in (record { start = e.position.0; tag = e.tag; payload = bytes_at s (e.position.0 + 16) e.len })) at.2
        ∙ ap (λ (l : List ℕ). block_in (record { start = at.0.start; tag = at.0.tag; payload = l })) named
        ∙ sym (entry_found at.1)

-- ---- A refusal has a number of the table

pub data TabledBlock : BlockRead → Type 0 where
  is_refused : {n : ℕ} → Tabled n → TabledBlock (refused n)
  is_got : {r : _} {at n : ℕ} → TabledBlock (got r at n)

pub refused_tabled : {n : ℕ} → TabledBlock (refused n) → Tabled n
refused_tabled (is_refused h) = h

either : (t : Bool) {a b : BlockRead} → TabledBlock a → TabledBlock b → TabledBlock (pick t a b)
unfolding pick
either true h l = h
either false h l = l

answer_tabled : {A : Type 0} (n : ℕ) (some : A → ℕ → BlockRead) → Tabled n → ((a : A) (e : ℕ) → TabledBlock (some a e)) → (x : Res A)
    → TabledBlock (answer (refused n) some x)
unfolding answer
answer_tabled n some h g bad = is_refused h
answer_tabled n some h g (Res.got a e) = g a e

block_tabled : (a : Entry) → TabledBlock (block_in a)
unfolding block_in plain_block own_block_at
block_tabled a =
    either (eqb a.tag 1) (answer_tabled 9 _ (tabled Block) (λ b e. is_got) (block a.payload 0))
    (either (eqb a.tag 3) (answer_tabled 10 _ (tabled OwnBlock) (λ o e. is_got) (own_block a.payload 0)) (is_refused (tabled Tag)))

from_tabled : (k : ℕ) (s : List ℕ) (used p : ℕ) (x : read.Read) → read_at k s used p ≡ x → TabledRead x → TabledBlock (block_at k s used p)
unfolding block_at
from_tabled k s used p (read.Read.refused n) is h = rw is (is_refused (read_no_tabled h))
from_tabled k s used p (found a) is h = subst TabledBlock (sym (entry_found k s used p is)) (block_tabled a)

pub block_at_tabled : (k : ℕ) (s : List ℕ) (used p : ℕ) → TabledBlock (block_at k s used p)
block_at_tabled k s used p = from_tabled k s used p (read_at k s used p) refl (read_at_tabled k s used p)

-- ---- What a read told

pub told_refused : (x : BlockRead) {r : Refusal} → Err r ≡ read_of x → (n : ℕ) × (x ≡ refused n) × (r ≡ refusal_of n)
unfolding read_of
told_refused (refused n) is = (n, refl, cc)
told_refused (got r at n) is = absurd (cc)

pub told_got : (x : BlockRead) {b : ReadBlock} → Ok b ≡ read_of x → x ≡ got b.reference b.bytes.at b.bytes.left
unfolding read_of
told_got (refused n) is = absurd (cc)
told_got (got r at n) {b} is =
    let same : b ≡ record { reference = r; bytes = record { at = at; left = n } } = cc in
    rw same
