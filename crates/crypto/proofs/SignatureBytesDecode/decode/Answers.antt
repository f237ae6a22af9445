-- `decode` of a signature meets its contract. Assumes nothing.
use Rattle.laws.specs.Parse.{answer, then}
use Rattle.bincode.specs.Bincode.{exactly}
use Rattle.bincode.proofs.Found.{told, nothing}
use Rattle.crypto.specs.Records.{signature}
use Rattle.crypto.proofs.SignatureBytesDecode.decode.Goals as goal

pub returns-in_err-bytes : goal.returns-in_err-bytes
unfolding answer then signature
returns-in_err-bytes c = rw (c.from_residual.ensures, nothing (exactly 64 c.args.s.now c.args.at) c.in_err-bytes.ensures)

pub returns : goal.returns
unfolding answer then signature
returns c = rw (told (exactly 64 c.args.s.now c.args.at) c.in_ok-bytes.ensures)
