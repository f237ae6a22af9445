-- For the proofs alone; no promise is stated with it. A number of document 01's table.
use Rattle.std.specs.Prelude.{◌≡◌, ℕ}
use Rattle.refusal.specs.declared.Refusal.{Refusal}
use Rattle.refusal.specs.Refusals.{number}

pub record Tabled (n : ℕ) : Type 0 where
  pub refusal : Refusal
  pub same : number refusal ≡ n
