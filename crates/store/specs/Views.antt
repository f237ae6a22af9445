-- A store as a call is lent it: its log, its value and its index rows. Document 01, the refusal table and "Lookups".
use Rattle.std.specs.Prelude.{List, ℕ, length}
use Rattle.store.specs.declared.BlockStore.{BlockStore}
use Rattle.store.specs.declared.StoreView.{StoreView}
use Rattle.store.specs.Store.{call_check}

-- what f says of this store
abbrev pub of_view {ℓ} : {A : Type ℓ} → (ℕ → List ℕ → ℕ → BlockStore → List ℕ → A) → StoreView → A
of_view f view = f view.log.exponent view.log.image.now view.log.used view.store view.index.now

-- 1, 2, 18
abbrev pub view_check : StoreView → ℕ
view_check = of_view (λ k image used store index. call_check k used (length image) store index)
