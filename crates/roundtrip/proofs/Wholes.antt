-- A list that is a record, or elements in a row, and nothing else. Assumes nothing.
use mathlib.Core.Path.{◌≡◌, ap₂}
use mathlib.Core.List.{List, ◌++◌}
use Prim.Native.Nat.{ℕ, zero-le}
use lib.ListN.{length}
use Rattle.laws.specs.Bytes.{le, AllBytes}
use Rattle.laws.specs.Parse.{Parser, got, many, joined}
use Rattle.laws.proofs.Parses.{many_length}
use Rattle.bincode.specs.Bincode.{vec_bytes}
use Rattle.roundtrip.proofs.Inverse.{Inverse}
use Rattle.roundtrip.specs.Valid.{Every}
use Rattle.roundtrip.proofs.Spans.{all, itself}
use Rattle.roundtrip.proofs.Rules.{many_back, many_forth}

module _ {A : Type 0} {f : Parser A} {layout : A → List ℕ} {Valid : A → Type 0} (inv : Inverse f layout Valid) (s : List ℕ) (bytes : AllBytes s) where
  -- its bytes are those of the record
  pub record_bytes : {x : A} → f s 0 ≡ got x (length s) → layout x ≡ s
  record_bytes h = all (inv.encoded bytes h).spans

  -- behind their count they are the list
  pub list_bytes : (n : ℕ) {xs : List A} → many f n s 0 ≡ got xs (length s) → vec_bytes layout xs ≡ le 8 n ++ s
  unfolding vec_bytes
  list_bytes n h = ap₂ (λ (k : ℕ) (v : List ℕ). le 8 k ++ v) (many_length f s n 0 h) (all (many_forth inv s bytes n 0 zero-le h).spans)

-- elements in a row decode to themselves, and nothing is left over
pub many_whole : {A : Type 0} {f : Parser A} {layout : A → List ℕ} {Valid : A → Type 0} → Inverse f layout Valid
    → {xs : List A} → Every Valid xs → many f (length xs) (joined layout xs) 0 ≡ got xs (length (joined layout xs))
many_whole {layout = layout} inv v = many_back inv v (itself (joined layout _))
