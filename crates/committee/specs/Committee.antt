-- The committee. Document 01, the refusal table.
use Rattle.std.specs.Prelude.{ℕ, leb, ltb}
use Rattle.laws.specs.Pick.{pick}

-- 18: "committee size not 1 to 128; own authority not below it". 0 where neither holds.
unfoldable pub committee_check : ℕ → ℕ → ℕ
committee_check size own = pick (leb 1 size) (pick (leb size 128) (pick (ltb own size) 0 18) 18) 18
