-- What holds of the recovery of every input: one law by the ways in which an input is read. Assumes nothing.
use mathlib.Core.Logic.{inl, inr}
use mathlib.Core.List.{List, [], ◌∷◌}
use Prim.Native.Nat.{ℕ, suc, ◌≤◌}
use native.Mathlib.Omega.{arith}
use lib.ListN.{length}
use Rattle.laws.specs.Pick.{pick}
use Rattle.laws.specs.Bytes.{AllBytes}
use Rattle.laws.proofs.Tests.{leb_cases}
use Rattle.replay.specs.Recovery.{Recovery, refused, recover}
use Rattle.page_text.specs.Page.{program_rows, read_input, input_recovery}

-- of every recovery that the program asks for
abbrev pub Asked : (Recovery → Type 0) → Type 0
Asked P = (k : ℕ) (s : List ℕ) (size own : ℕ) → AllBytes s → length s ≤ 65533 → P (recover k s (length s) size own program_rows)

module _ (P : Recovery → Type 0) (short : P (refused 1 0)) (long : P (refused 2 0)) (whole : Asked P) where
  input_read : (input : List ℕ) → AllBytes input → length input ≤ 65536 → P (read_input input)
  unfolding read_input
  input_read [] bytes h = short
  input_read (k ∷ []) bytes h = short
  input_read (k ∷ size ∷ []) bytes h = short
  input_read (k ∷ size ∷ own ∷ image) bytes h = whole k image size own (λ i. bytes (suc (suc (suc i)))) (omega arith)

  pub input_cases : (input : List ℕ) → AllBytes input → P (input_recovery input)
  unfolding input_recovery pick
  input_cases input bytes =
      elim (leb_cases (length input) 65536) [ inl y ↦ rw y.0 (input_read input bytes y.1) | inr m ↦ rw m.0 long ]
