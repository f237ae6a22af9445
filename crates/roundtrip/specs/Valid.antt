-- The values that the machine's types can hold: numbers fit their widths, a digest has 32 bytes and a signature 64, and a list has
-- fewer elements than a count of 8 bytes can tell.
use Rattle.std.specs.Prelude.{◌≡◌, List, [], ◌∷◌, ℕ, ◌^◌, ◌<◌, length}
use Rattle.std.proofs.Math.Option.{Option, none, some}
use Rattle.crypto.specs.declared.BlockDigest.{BlockDigest}
use Rattle.crypto.specs.declared.SignatureBytes.{SignatureBytes}
use Rattle.types.specs.declared.BlockReference.{BlockReference}
use Rattle.types.specs.declared.TransactionLocator.{TransactionLocator}
use Rattle.types.specs.declared.TransactionLocatorRange.{TransactionLocatorRange}
use Rattle.types.specs.Records.{VoteValue, accept, reject, StatementValue, share, vote_on, vote_range, BlockValue}
use Rattle.commits.specs.Records.{OwnBlockValue, CommitValue, CommitsValue}

-- a number of w bytes
abbrev pub Wide : ℕ → ℕ → Type 0
Wide w x = x < 256 ^ w

-- a byte string
abbrev pub ValidBytes : List ℕ → Type 0
ValidBytes bytes = Wide 8 (length bytes)

-- each element has the property
pub data Every {A : Type 0} (P : A → Type 0) : List A → Type 0 where
  nil : Every P []
  more : {x : A} {xs : List A} → P x → Every P xs → Every P (x ∷ xs)

-- a list of valid elements
pub record ValidList {A : Type 0} (Valid : A → Type 0) (xs : List A) : Type 0 where
  pub count : Wide 8 (length xs)
  pub each : Every Valid xs

pub data ValidOption {A : Type 0} (Valid : A → Type 0) : Option A → Type 0 where
  nothing : ValidOption Valid none
  just : {x : A} → Valid x → ValidOption Valid (some x)

abbrev pub ValidDigest : BlockDigest → Type 0
ValidDigest d = length d.0 ≡ 32

abbrev pub ValidSignature : SignatureBytes → Type 0
ValidSignature b = length b.0 ≡ 64

pub record ValidReference (r : BlockReference) : Type 0 where
  pub authority : Wide 8 r.authority
  pub round : Wide 8 r.round
  pub digest : ValidDigest r.digest

pub record ValidLocator (l : TransactionLocator) : Type 0 where
  pub block : ValidReference l.block
  pub offset : Wide 8 l.offset

pub record ValidRange (r : TransactionLocatorRange) : Type 0 where
  pub block : ValidReference r.block
  pub start : Wide 8 r.offset_start_inclusive
  pub end : Wide 8 r.offset_end_exclusive

pub data ValidVote : VoteValue → Type 0 where
  accepts : ValidVote accept
  rejects : {other : Option TransactionLocator} → ValidOption ValidLocator other → ValidVote (reject other)

pub data ValidStatement : StatementValue → Type 0 where
  shares : {bytes : List ℕ} → ValidBytes bytes → ValidStatement (share bytes)
  votes : {l : TransactionLocator} {v : VoteValue} → ValidLocator l → ValidVote v → ValidStatement (vote_on l v)
  ranges : {r : TransactionLocatorRange} → ValidRange r → ValidStatement (vote_range r)

pub record ValidBlock (b : BlockValue) : Type 0 where
  pub reference : ValidReference b.reference
  pub includes : ValidList ValidReference b.includes
  pub statements : ValidList ValidStatement b.statements
  pub time_low : Wide 8 b.time_low
  pub time_high : Wide 8 b.time_high
  pub signature : ValidSignature b.signature

pub record ValidOwnBlock (o : OwnBlockValue) : Type 0 where
  pub next_entry : Wide 8 o.next_entry
  pub block : ValidBlock o.block

pub record ValidCommit (c : CommitValue) : Type 0 where
  pub leader : ValidReference c.leader
  pub sub_dag : ValidList ValidReference c.sub_dag

pub record ValidCommits (c : CommitsValue) : Type 0 where
  pub commits : ValidList ValidCommit c.commits
  pub state : ValidBytes c.state
