-- What the calls are held to: the answer, and what they leave in the tables and the buffer that they are lent.
use Rattle.std.specs.Prelude.{◌≡◌, List, ℕ, Result, Ok, Err}
use Rattle.refusal.specs.declared.Refusal.{Refusal}
use Rattle.refusal.specs.Refusals.{refusal_of}
use Rattle.text.specs.Put.{Put}
use Rattle.replay.specs.Recovery.{Recovery, refused, recovered, recover}
use Rattle.replay_log.specs.Answers.{Tables, rows_lent, tables_after}
use Rattle.page_text.specs.Page.{page_of}
use Rattle.page.specs.declared.Paged.{Paged}

-- the refusal, if there is one
unfoldable pub refusal_in : Recovery → Result Unit Refusal
refusal_in (refused n p) = Err (refusal_of n)
refusal_in (recovered w e l) = Ok tt

-- of a recovery that comes to x: the answer r, and the tables and the buffer before and after
pub record FillsPage (x : Recovery) (before : Tables) (out : List ℕ) (r : Paged) (after : Tables) (out' : List ℕ) : Type 0 where
  pub refusal : r.recovered ≡ refusal_in x
  pub text : Put 0 (page_of x) out out' r.length
  pub words : after ≡ tables_after x before

-- what `page::recovery_page` is held to
abbrev pub FillsRecoveryPage : ℕ → List ℕ → ℕ → ℕ → ℕ → Tables → List ℕ → Paged → Tables → List ℕ → Type 0
FillsRecoveryPage k image used size own before out r after out' =
    FillsPage (recover k image used size own (rows_lent before)) before out r after out'
