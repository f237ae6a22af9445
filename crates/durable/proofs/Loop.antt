-- The file layer's loop: it ends, never below L, and keeps the first entries. Assumes nothing.
use mathlib.Core.Path.{◌≡◌, refl, sym, ap, ◌∙◌}
use mathlib.Core.Bool.{Bool, true, false}
use mathlib.Core.List.{List, [], ◌++◌, append-nil, append_assoc}
use Prim.Native.Nat.{ℕ, zero, suc, ◌≤◌, ◌<◌}
use native.Mathlib.Omega.{arith}
use borrow.Author.Tests.{eqb-true}
use Rattle.wal_reader.specs.Entries.{Entry}
use Rattle.wal.specs.Walk.{Stop, Walk, walk}
use Rattle.replay.specs.Items.{ReplayEntry}
use Rattle.replay.specs.Recovery.{Lent, Recovery, refused, recovered, recover}
use Rattle.durable.specs.Durable.{HoldsFirst, CutAt, asks_for_rows, AfterCuts, one_cut, cut_from, cut_down, NothingLost, CutsDown}
use Rattle.durable.proofs.Cutting.{start_later, both_start}
use Rattle.durable.proofs.Recoveries.{NotRefused}
use Rattle.durable.proofs.Images.{all_within, recovers, recovery_refused}

-- ---- One time around

module _ (used : ℕ) (go_on : ℕ → AfterCuts) where
  one_asks : (n p : ℕ) → asks_for_rows n ≡ true → one_cut used go_on (refused n p) ≡ record { used = used; answer = refused n p }
  unfolding one_cut
  one_asks n p h = rw (h, one_cut)

  one_cuts : (n p : ℕ) → asks_for_rows n ≡ false → one_cut used go_on (refused n p) ≡ go_on p
  unfolding one_cut
  one_cuts n p h = rw (h, one_cut)

  one_serves : (w : Stop) (e : ℕ) (l : List ReplayEntry)
      → one_cut used go_on (recovered w e l) ≡ record { used = used; answer = recovered w e l }
  unfolding one_cut
  one_serves w e l = refl

  one_ends : (x : Recovery) → ((n p : ℕ) → x ≡ refused n p → ⊥) → one_cut used go_on x ≡ record { used = used; answer = x }
  one_ends (recovered w e l) never = one_serves w e l
  one_ends (refused n p) never = absurd (never n p refl)

one_same : (used : ℕ) (f g : ℕ → AfterCuts) (x : Recovery) → ((n p : ℕ) → x ≡ refused n p → f p ≡ g p) → one_cut used f x ≡ one_cut used g x
one_same used f g (recovered w e l) same = one_serves used f w e l ∙ sym (one_serves used g w e l)
one_same used f g (refused n p) same = by (asks_for_rows n) refl
  where
    by : (b : Bool) → asks_for_rows n ≡ b → one_cut used f (refused n p) ≡ one_cut used g (refused n p)
    by true asks = one_asks used f n p asks ∙ sym (one_asks used g n p asks)
    by false other = one_cuts used f n p other ∙ same n p refl ∙ sym (one_cuts used g n p other)

-- ---- The cuts

module _ (k L : ℕ) (s : List ℕ) (size own : ℕ) (lent : Lent) {word : Stop} {l : List ReplayEntry}
    (at : NotRefused k s L size own lent word L l) (t : List ℕ) where
  -- what recovery gives with this used, and where at most n cuts come to
  abbrev gives : ℕ → Recovery
  gives used = recover k t used size own lent

  abbrev comes_to : ℕ → ℕ → AfterCuts
  comes_to n used = cut_from k t size own lent n used

  abbrev Down : ℕ → AfterCuts → Type 0
  Down used to = CutsDown k L size own lent l t used to

  -- no cut is made
  stays : (used : ℕ) → HoldsFirst L s t used → (x : Recovery) → gives used ≡ x → NothingLost L l x
      → Down used (record { used = used; answer = x })
  stays used h x is fine =
      record {
        from = h.from;
        by = omega arith;
        answers = is;
        nothing_lost = fine;
        cut = [];
        first = sym (append-nil (walk k t used).entries);
        ends_by = all_within k L s size own lent at t used h;
        starts_from = tt;
      }

  -- a cut, and what follows it
  goes_on : (used p : ℕ) → CutAt k L s t used p → (to : AfterCuts) → Down p to → Down used to
  goes_on used p place to later =
      let kept : (walk k t p).entries ≡ place.before = ap (λ (w : Walk). w.entries) place.walks in
      record {
        from = later.from;
        by = omega (arith, later.by, place.ahead);
        answers = later.answers;
        nothing_lost = later.nothing_lost;
        cut = later.cut ++ place.after;
        first =
            place.first
            ∙ ap (λ (es : List Entry). es ++ place.after) (sym kept ∙ later.first)
            ∙ append_assoc (walk k t to.used).entries later.cut place.after;
        ends_by = later.ends_by;
        starts_from =
            both_start to.used later.cut place.after later.starts_from
            (start_later place.after later.by place.starts_from);
      }

  module _ (used : ℕ) (h : HoldsFirst L s t used) where
    cut_there : {i p : ℕ} → gives used ≡ refused i p → CutAt k L s t used p
    cut_there {i} {p} is = recovery_refused k L s size own lent at t used h i p is

    -- where a cut is made, used is not 0
    some_left : {i p : ℕ} → gives used ≡ refused i p → 0 < used
    some_left is = omega (arith, (cut_there is).ahead)

    serves : {w : Stop} {e : ℕ} {m : List ReplayEntry} → gives used ≡ recovered w e m
        → Down used (record { used = used; answer = recovered w e m })
    serves {w} {e} {m} is =
        let served = recovers k L s size own lent at t used h w e m is in
        stays used h (recovered w e m) is (served.from, served.begins)

    asks : {i p : ℕ} → gives used ≡ refused i p → asks_for_rows i ≡ true → Down used (record { used = used; answer = refused i p })
    unfolding asks_for_rows
    asks {i} {p} is fifteen = stays used h (refused i p) is (eqb-true i 15 fifteen, (cut_there is).from)

  cuts_from : (n used : ℕ) → used ≤ n → HoldsFirst L s t used → Down used (comes_to n used)
  unfolding cut_from
  cuts_from zero used most h = from (gives used) refl
    where
      from : (x : Recovery) → gives used ≡ x → Down used (record { used = used; answer = gives used })
      from (recovered w e m) is = rw is (serves used h is)
      from (refused i p) is = absurd (omega (arith, some_left used h is))
  cuts_from (suc n) used most h = from (λ p. cuts_from n p) (gives used) refl
    where
      Later : Type 0
      Later = (p : ℕ) → p ≤ n → HoldsFirst L s t p → Down p (comes_to n p)

      by : Later → (i p : ℕ) → gives used ≡ refused i p → (b : Bool) → asks_for_rows i ≡ b → Down used (one_cut used (comes_to n) (refused i p))
      by later i p is true fifteen = rw (one_asks used (comes_to n) i p fifteen) (asks used h is fifteen)
      by later i p is false other =
          let place = cut_there used h is in
          rw (one_cuts used (comes_to n) i p other)
          (goes_on used p place (comes_to n p) (later p (omega (arith, place.ahead)) place.again))

      from : Later → (x : Recovery) → gives used ≡ x → Down used (one_cut used (comes_to n) (gives used))
      from later (recovered w e m) is = rw (is, one_serves used (comes_to n) w e m) (serves used h is)
      from later (refused i p) is = rw is (by later i p is (asks_for_rows i) refl)

  pub cuts_down : (used : ℕ) → HoldsFirst L s t used → Down used (cut_down k t size own lent used)
  unfolding cut_down
  cuts_down used h = cuts_from used used (omega arith) h

  -- ---- The loop without its bound

  -- no refusal with used 0
  empty_serves : (used : ℕ) → used ≤ 0 → HoldsFirst L s t used → (i p : ℕ) → gives used ≡ refused i p → ⊥
  empty_serves used most h i p is = omega (arith, some_left used h is)

  -- two bounds that both leave a cut for each byte before used
  enough : (n m used : ℕ) → used ≤ n → used ≤ m → HoldsFirst L s t used → comes_to n used ≡ comes_to m used
  unfolding cut_from
  enough zero zero used most most' h = refl
  enough zero (suc m) used most most' h = sym (one_ends used (comes_to m) (gives used) (empty_serves used most h))
  enough (suc n) zero used most most' h = one_ends used (comes_to n) (gives used) (empty_serves used most' h)
  enough (suc n) (suc m) used most most' h =
      one_same used (comes_to n) (comes_to m) (gives used)
      (λ i p is.
      let place = cut_there used h is in
      enough n m p (omega (arith, place.ahead)) (omega (arith, place.ahead)) place.again)

  pub loop : (used : ℕ) → HoldsFirst L s t used → cut_down k t size own lent used ≡ one_cut used (cut_down k t size own lent) (gives used)
  unfolding cut_down cut_from
  loop zero h = sym (one_ends 0 (cut_down k t size own lent) (gives 0) (empty_serves 0 (omega arith) h))
  loop (suc used) h =
      one_same (suc used) (comes_to used) (cut_down k t size own lent) (gives (suc used))
      (λ i p is.
      let place = cut_there (suc used) h is in
      enough used p p (omega (arith, place.ahead)) (omega arith) place.again)
