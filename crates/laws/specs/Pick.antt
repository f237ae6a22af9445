-- A choice by a test. Definitions that check one thing after another are nested picks, in the order of the checks.
use Rattle.std.specs.Prelude.{Bool, true, false}

-- a where the test holds, and otherwise b
unfoldable pub pick {ℓ} : {A : Type ℓ} → Bool → A → A → A
pick true a b = a
pick false a b = b
