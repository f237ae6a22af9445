-- What each function that puts text into a buffer ensures. Assumes nothing.
use Rattle.std.specs.Prelude.{ℕ, ◌+◌, ◌≡◌, List, length}
use Rattle.text.specs.Clipped.{clipped}

-- The text v was put at index p into a buffer that held s and now holds t, and the answer r is where v would end, also where it did not
-- fit.
pub record Put (p : ℕ) (v s t : List ℕ) (r : ℕ) : Type 0 where
  pub next : r ≡ p + length v
  pub bytes : t ≡ clipped s p v
