-- What the decoder of a statement answers.
use Rattle.std.specs.Prelude.{ℕ, ◌-◌, length}
use Rattle.types.specs.Records.{StatementValue, share, vote_on, vote_range}
use Rattle.votes.specs.Answers.{vote_of}
use Rattle.statements.specs.declared.BaseStatement.{BaseStatement}
use Rattle.statements.specs.declared.BaseStatement.TheVariants.{Share, Vote, VoteRange}

-- a statement that ends at e. The bytes of a Share are answered by their place, and end where it does.
abbrev pub statement_of : StatementValue → ℕ → BaseStatement
statement_of (share bytes) e = Share (record { at = e - length bytes; left = length bytes })
statement_of (vote_on l v) e = Vote l (vote_of v)
statement_of (vote_range r) e = VoteRange r
