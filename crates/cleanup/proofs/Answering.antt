-- What cleanup answers, by what the checks answered. Assumes nothing.
use mathlib.Core.Path.{◌≡◌, refl, sym, ap, ◌∙◌}
use mathlib.Core.List.{List, map}
use Prim.Native.Nat.{ℕ}
use borrow.Author.Tests.{eq-eqb, ne_eqb}
use Rattle.std.proofs.Common.{Ok, Err}
use Rattle.laws.specs.Pick.{pick}
use Rattle.laws.specs.Bytes.{written}
use Rattle.refusal.specs.declared.Refusal.{Refusal}
use Rattle.refusal.specs.Refusals.{checked}
use Rattle.refusal.proofs.Numbers.{passed, not_passed}
use Rattle.wal_position.proofs.Checks.{unless_passed, unless_refused, refused_by, passed_by}
use Rattle.rows.specs.Rows.{flat}
use Rattle.cleanup.specs.Cleanup.{unload, unloads, clean_answer, clean_index}

-- n is the number that the checks give
module _ (n t : ℕ) (rows : List (List ℕ)) where
  pub cleanup_refused : {r : Refusal} → Err r ≡ checked n → Err r ≡ clean_answer n t rows
  unfolding clean_answer
  cleanup_refused h = refused_by n _ h

  module _ (h : Ok tt ≡ checked n) where
    pub cleanup_nothing : t ≡ 0 → Ok 0 ≡ clean_answer n t rows
    unfolding clean_answer pick
    cleanup_nothing e = ap Ok (sym (rw (eq-eqb t 0 e))) ∙ passed_by n _ h

    pub cleanup_counted : (t ≡ 0 → ⊥) → Ok (unloads t rows) ≡ clean_answer n t rows
    unfolding clean_answer pick
    cleanup_counted d = ap Ok (sym (rw (ne_eqb t 0 d))) ∙ passed_by n _ h

  module _ (index : List ℕ) where
    pub index_refused : {r : Refusal} → Err r ≡ checked n → index ≡ clean_index n t rows index
    unfolding clean_index
    index_refused h = sym (unless_refused (λ (m : ℕ). index) _ n (not_passed n h).0)

    module _ (h : Ok tt ≡ checked n) where
      pub index_left : t ≡ 0 → index ≡ clean_index n t rows index
      unfolding clean_index pick
      index_left e = sym (unless_passed (λ (m : ℕ). index) _ n (passed n h) ∙ rw (eq-eqb t 0 e))

      pub index_unloaded : (t ≡ 0 → ⊥) → written index 0 (flat (map (unload t) rows)) ≡ clean_index n t rows index
      unfolding clean_index pick
      index_unloaded d = sym (unless_passed (λ (m : ℕ). index) _ n (passed n h) ∙ rw (ne_eqb t 0 d))
