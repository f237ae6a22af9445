-- The Share among a block's statements, by what the code found there, and the bytes that it names. Assumes nothing.
use mathlib.Core.Path.{◌≡◌, refl, sym, ap, ◌∙◌, subst}
use mathlib.Core.Bool.{Bool, true, false}
use mathlib.Core.List.{List}
use mathlib.Core.Option.{Option as Optional, none, some}
use Rattle.std.specs.Prelude.{Option, Some, None}
use Prim.Native.Nat.{ℕ, ◌+◌, ◌-◌, ◌≤◌, ◌<◌}
use native.Mathlib.Omega.{arith}
use lib.Dec.{eqb}
use lib.ListN.{length}
use Rattle.laws.specs.Pick.{pick}
use Rattle.laws.specs.Bytes.{bytes_at}
use Rattle.laws.specs.Parse.{Res, bad, got, then, number, answer}
use Rattle.bincode.specs.declared.Cursor.{Cursor}
use Rattle.bincode.specs.Bincode.{byte_string}
use Rattle.bincode.specs.Cursors.{next_element, past, after}
use Rattle.bincode.proofs.Rules.{bytes_found}
use Rattle.types.specs.declared.TransactionLocator.{TransactionLocator}
use Rattle.types.specs.declared.TransactionLocatorRange.{TransactionLocatorRange}
use Rattle.types.specs.Records.{VoteValue, StatementValue, share, vote_on, vote_range, statement, locator, range, vote, BlockValue, block}
use Rattle.statements.specs.declared.BaseStatement.{BaseStatement}
use Rattle.statements.specs.declared.BaseStatement.TheVariants.{Share, Vote, VoteRange}
use Rattle.statements.specs.Answers.{statement_of}
use Rattle.blocks.specs.declared.StatementBlock.{StatementBlock}
use Rattle.blocks.specs.Answers.{statement_block}
use Rattle.bincode.specs.Answers.{decoded_as, next_answer}
use Rattle.bincode.proofs.Found.{told_as, told_none, told_next, next_nothing}
use Rattle.transaction.specs.Transaction.{share_of, share_in, share_bytes, named}
use Rattle.transaction.proofs.Steps.{Stepping, stepping_next, stepping_none, stepping_end}

-- ---- A step

-- what the code answers for a statement
abbrev pub share_of_statement : BaseStatement → Option Cursor
share_of_statement (Share bytes) = Some bytes
share_of_statement (Vote l v) = None
share_of_statement (VoteRange r) = None

value_share : (v : StatementValue) (e : ℕ) → share_of_statement (statement_of v e) ≡ share_of (got v e)
unfolding share_of
value_share (share bytes) e = refl
value_share (vote_on l v) e = refl
value_share (vote_range r) e = refl

module _ (c : Cursor) (x : Res StatementValue) where
  pub no_statement : None ≡ next_answer statement_of c x → x ≡ bad
  no_statement h = next_nothing statement_of c x h

  pub some_statement : {b : BaseStatement} {r : Cursor} → Some (b, r) ≡ next_answer statement_of c x
      → (v : StatementValue) × (e : ℕ) × (x ≡ got v e) × (b ≡ statement_of v e) × (r ≡ past c e)
  some_statement h = told_next statement_of c x h

  pub share_none : None ≡ next_answer statement_of c x → None ≡ share_of x
  unfolding share_of
  share_none h = sym (ap share_of (no_statement h))

  pub share_kind : {b : BaseStatement} {r : Cursor} → Some (b, r) ≡ next_answer statement_of c x → share_of_statement b ≡ share_of x
  share_kind h =
      let g = some_statement h in
      ap share_of_statement g.3 ∙ value_share g.0 g.1 ∙ ap share_of (sym g.2)

-- ---- The loop

module _ (s : List ℕ) (offset : ℕ) where
  pub stepped : {c₀ : Cursor} {i : ℕ} {c : Cursor} → Stepping statement s offset c₀ i c → i < offset
      → {b : BaseStatement} {r : Cursor} → Some (b, r) ≡ next_answer statement_of c (next_element statement s c)
      → Stepping statement s offset c₀ (i + 1) r
  stepped {c₀} {i} {c} h more found =
      let g = some_statement c (next_element statement s c) found in
      subst (λ (c : Cursor). Stepping statement s offset c₀ (i + 1) c) (sym g.4) (stepping_next statement s h more g.2)

  pub undecoded : None ≡ decoded_as (λ b e. statement_block 0 b) (block s 0) → None ≡ share_in s offset
  unfolding share_in answer
  undecoded h = sym (rw (told_none _ (block s 0) h))

  module _ {b : StatementBlock} {e : ℕ} (is : Some (b, e) ≡ decoded_as (λ b e. statement_block 0 b) (block s 0)) where
    decoded : share_of (next_element statement s (after statement s offset b.statements)) ≡ share_in s offset
    unfolding share_in answer
    decoded =
        let found = told_as (λ b e. statement_block 0 b) (block s 0) is in
        rw found.1 (ap (λ (b : StatementBlock). share_of (next_element statement s (after statement s offset b.statements))) found.2)

    module _ {i : ℕ} {c : Cursor} (h : Stepping statement s offset b.statements i c) where
      pub stopped : None ≡ next_answer statement_of c (next_element statement s c) → None ≡ share_in s offset
      unfolding share_of
      stopped h' =
          ap share_of (sym (stepping_none statement s h (no_statement c (next_element statement s c) h'))) ∙ decoded

      pub reached : offset ≤ i → share_of (next_element statement s c) ≡ share_in s offset
      reached all = ap (λ (c : Cursor). share_of (next_element statement s c)) (sym (stepping_end statement s h all)) ∙ decoded

-- ---- What it names

-- the transaction in what a parser of statements finds
unfoldable pub given : Res StatementValue → Optional (List ℕ)
given bad = none
given (got v e) = share_bytes v

-- where the bytes that it names end
unfoldable pub span_end : Option Cursor → ℕ
span_end None = 0
span_end (Some c) = c.at + c.left

-- a Share that was found lies in s, and its bytes are there
pub record Lies (s : List ℕ) (x : Res StatementValue) : Type 0 where
  pub within : span_end (share_of x) ≤ length s
  pub names : named s (share_of x) ≡ given x

module _ (s : List ℕ) where
  lies_bad : Lies s bad
  unfolding share_of named given span_end
  lies_bad = record { within = omega arith; names = refl }

  lies_vote : (l : TransactionLocator) (v : VoteValue) (e : ℕ) → Lies s (got (vote_on l v) e)
  unfolding share_of named given share_bytes span_end
  lies_vote l v e = record { within = omega arith; names = refl }

  lies_range : (r : TransactionLocatorRange) (e : ℕ) → Lies s (got (vote_range r) e)
  unfolding share_of named given share_bytes span_end
  lies_range r e = record { within = omega arith; names = refl }

  lies_share : (p : ℕ) (bytes : List ℕ) (e : ℕ) → byte_string s p ≡ got bytes e → Lies s (got (share bytes) e)
  unfolding share_of named given share_bytes span_end
  lies_share p bytes e is =
      let found = bytes_found s p is in
      let at : e - length bytes ≡ p + 8 = omega (arith, found.end) in
      record {
        within = omega (arith, found.end, found.within);
        names = ap (λ (q : ℕ). some (bytes_at s q (length bytes))) at ∙ ap (λ (l : List ℕ). some l) (sym found.these);
      }

  lies_pick : (t : Bool) {x y : Res StatementValue} → Lies s x → Lies s y → Lies s (pick t x y)
  unfolding pick
  lies_pick true h g = h
  lies_pick false h g = g

  lies_then : {A : Type 0} (x : Res A) {f : A → ℕ → Res StatementValue} → ((a : A) (e : ℕ) → x ≡ got a e → Lies s (f a e)) → Lies s (then x f)
  unfolding then
  lies_then bad h = lies_bad
  lies_then (got a e) h = h a e refl

  statement_lies : (p : ℕ) → Lies s (statement s p)
  unfolding statement
  statement_lies p =
      lies_then (number 4 s p) (λ variant e is.
      lies_pick (eqb variant 0) (lies_then (byte_string s e) (λ bytes f found. lies_share e bytes f found))
      (lies_pick (eqb variant 1) (lies_then (locator s e) (λ l f is. lies_then (vote s f) (λ v g is. lies_vote l v g)))
      (lies_pick (eqb variant 2) (lies_then (range s e) (λ r f is. lies_range r f)) lies_bad)))

  pub next_lies : (c : Cursor) → Lies s (next_element statement s c)
  unfolding next_element
  next_lies c = lies_pick (eqb c.left 0) lies_bad (statement_lies c.at)

  pub share_within : (offset : ℕ) → span_end (share_in s offset) ≤ length s
  unfolding share_in answer span_end
  share_within offset = by (block s 0)
    where
      by : (x : Res BlockValue)
          → span_end
          (answer None
          (λ (b : BlockValue) e. share_of (next_element statement s (after statement s offset (statement_block 0 b).statements))) x)
          ≤ length s
      by bad = omega arith
      by (got b e) = (next_lies (after statement s offset (statement_block 0 b).statements)).within
