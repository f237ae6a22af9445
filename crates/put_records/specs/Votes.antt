-- The value of a vote that a program holds.
use Rattle.std.specs.Prelude.{Some, None}
use Rattle.std.proofs.Math.Option.{none, some}
use Rattle.types.specs.Records.{VoteValue, accept, reject}
use Rattle.votes.specs.declared.Vote.{Vote}
use Rattle.votes.specs.declared.Vote.TheVariants.{Accept, Reject}

abbrev pub vote_value : Vote → VoteValue
vote_value Accept = accept
vote_value (Reject None) = reject none
vote_value (Reject (Some l)) = reject (some l)
