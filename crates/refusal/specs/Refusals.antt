-- The refusals and their numbers in document 01's table ("What a call answers"). Definitions of the document's rules give numbers;
-- calls answer the refusals.
use Rattle.std.specs.Prelude.{ℕ, zero, suc, eqb, Result, Ok, Err}
use Rattle.laws.specs.Pick.{pick}
use Rattle.refusal.specs.declared.Refusal.{Refusal}
use Rattle.refusal.specs.declared.Refusal.TheVariants.{RegionExponent, Used, EntryTooLarge, ImageFull, ChecksumWithoutLength, Length, Checksum, Tag, Block, OwnBlock, Payload, Commit, Authority, SecondOwnBlock, Rows, NoEntry, PastUsed, Store, AfterRound}

abbrev pub number : Refusal → ℕ
number RegionExponent = 1
number Used = 2
number EntryTooLarge = 3
number ImageFull = 4
number ChecksumWithoutLength = 5
number Length = 6
number Checksum = 7
number Tag = 8
number Block = 9
number OwnBlock = 10
number Payload = 11
number Commit = 12
number Authority = 13
number SecondOwnBlock = 14
number Rows = 15
number NoEntry = 16
number PastUsed = 17
number Store = 18
number AfterRound = 19

-- the refusal with a number of the table; proofs/Numbers.antt, `numbered`, has that its number is that one. A number that the table does
-- not have is no definition's.
unfoldable pub refusal_of : ℕ → Refusal
refusal_of n =
    pick (eqb n 1) RegionExponent
    (pick (eqb n 2) Used
    (pick (eqb n 3) EntryTooLarge
    (pick (eqb n 4) ImageFull
    (pick (eqb n 5) ChecksumWithoutLength
    (pick (eqb n 6) Length
    (pick (eqb n 7) Checksum
    (pick (eqb n 8) Tag
    (pick (eqb n 9) Block
    (pick (eqb n 10) OwnBlock
    (pick (eqb n 11) Payload
    (pick (eqb n 12) Commit
    (pick (eqb n 13) Authority
    (pick (eqb n 14) SecondOwnBlock
    (pick (eqb n 15) Rows
    (pick (eqb n 16) NoEntry
    (pick (eqb n 17) PastUsed
    (pick (eqb n 18) Store AfterRound)))))))))))))))))

-- a check, by its number: 0 where it is passed
unfoldable pub checked : ℕ → Result Unit Refusal
checked zero = Ok tt
checked (suc n) = Err (refusal_of (suc n))

-- what a call answers that a check refuses with a number
abbrev pub as_refused : {A : Type 0} → ℕ → Result A Refusal
as_refused n = Err (refusal_of n)

-- its number, 0 where it refuses nothing
unfoldable pub number_of : {A : Type 0} → Result A Refusal → ℕ
number_of (Ok x) = 0
number_of (Err r) = number r
