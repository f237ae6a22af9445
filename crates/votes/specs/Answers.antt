-- What the decoder of a vote answers.
use Rattle.std.specs.Prelude.{Some, None}
use Rattle.std.proofs.Math.Option.{none, some}
use Rattle.types.specs.Records.{VoteValue, accept, reject}
use Rattle.votes.specs.declared.Vote.{Vote}
use Rattle.votes.specs.declared.Vote.TheVariants.{Accept, Reject}

abbrev pub vote_of : VoteValue → Vote
vote_of accept = Accept
vote_of (reject none) = Reject None
vote_of (reject (some l)) = Reject (Some l)
