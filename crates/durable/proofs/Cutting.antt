-- The places that a walk comes to, and the walk of a log that is cut at one. Assumes nothing.
use mathlib.Core.Path.{◌≡◌, refl, sym, ap, ◌∙◌, subst}
use mathlib.Core.Bool.{Bool, true, false}
use mathlib.Core.List.{List, [], ◌∷◌, ◌++◌}
use mathlib.Core.Logic.{◌⊎◌, inl, inr}
use Prim.Native.Nat.{ℕ, zero, suc, ◌+◌, ◌≤◌, ◌<◌}
use native.Mathlib.Omega.{arith}
use lib.Dec.{leb, eqb}
use lib.ListN.{length}
use Rattle.laws.specs.Pick.{pick}
use Rattle.laws.proofs.Tests.{leb_cases}
use Rattle.wal_position.specs.Region.{region_start, next_region}
use Rattle.wal_position.proofs.Regions.{lt_next}
use Rattle.wal_reader.specs.Entries.{Entry, end_of}
use Rattle.wal_reader.specs.Look.{Look, past, region_full, no_header, blank, damaged, cut, whole, look_at}
use Rattle.wal_reader.proofs.Looks.{look_past}
use Rattle.wal.specs.Walk as walk
use Rattle.wal.specs.Walk.{Stop, END, ZEROS, Move, stop, go, refuse, list, move, move_at, Walk, Ending, listing, stopped, walk_at, Step, listed, settled, skipped, step_from}
use Rattle.wal.proofs.Walks.{list_listed, go_ahead, walk_stop, walk_go, after_step, walk_step_lem}
use Rattle.wal.proofs.Steps.{Ahead, step_ahead, here, behind, step_way}
use Rattle.wal.proofs.Prefixes.{go_same, step_same, walk_end}
use Rattle.durable.specs.Durable.{AllEndBy, AllStartFrom}

-- ---- Entries and positions

pub start_later : {p q : ℕ} (es : List Entry) → p ≤ q → AllStartFrom q es → AllStartFrom p es
start_later [] h all = tt
start_later (a ∷ es) h all = (omega (arith, all.0), start_later es h all.1)

pub end_earlier : {p q : ℕ} (es : List Entry) → p ≤ q → AllEndBy p es → AllEndBy q es
end_earlier [] h all = tt
end_earlier (a ∷ es) h all = (omega (arith, all.0), end_earlier es h all.1)

pub both_start : (p : ℕ) (es fs : List Entry) → AllStartFrom p es → AllStartFrom p fs → AllStartFrom p (es ++ fs)
both_start p [] fs h l = l
both_start p (a ∷ es) fs h l = (h.0, both_start p es fs h.1 l)

pub both_end : (p : ℕ) (es fs : List Entry) → AllEndBy p es → AllEndBy p fs → AllEndBy p (es ++ fs)
both_end p [] fs h l = l
both_end p (a ∷ es) fs h l = (h.0, both_end p es fs h.1 l)

-- ---- A move that refuses

blank_serves : (t : Bool) (n : ℕ) {m q : ℕ} → pick t (stop ZEROS) (go n) ≡ refuse m q → ⊥
unfolding pick
blank_serves true n h = let z : ◌≡◌ {A = ℕ} 0 1 = cc in omega arith
blank_serves false n h = let z : ◌≡◌ {A = ℕ} 0 1 = cc in omega arith

module _ (k : ℕ) (t : List ℕ) (used e p : ℕ) where
  refuses_there : (l : Look) {n q : ℕ} → move k used e p l ≡ refuse n q → q ≡ p
  unfolding move
  refuses_there past h = cc
  refuses_there region_full h = cc
  refuses_there no_header h = cc
  refuses_there blank h = absurd (blank_serves (eqb p (region_start k p)) (next_region k p) h)
  refuses_there (damaged n) h = cc
  refuses_there cut h = cc
  refuses_there (whole a) h = cc

  past_stops : used ≤ p → move_at k t used e p ≡ stop (pick (eqb e used) END ZEROS)
  unfolding move_at move
  past_stops h = ap (move k used e p) (look_past k t used p h)

  -- at the position itself, which lies before used
  refuse_at : {n q : ℕ} → move_at k t used e p ≡ refuse n q → (q ≡ p) × (p < used)
  unfolding move_at
  refuse_at {n} {q} h = (refuses_there (look_at k t used p) h, before (leb_cases used p))
    where
      before : ((leb used p ≡ true) × (used ≤ p)) ⊎ ((leb used p ≡ false) × (p < used)) → p < used
      before (inl c) =
          let stops : move_at k t used e p ≡ stop (pick (eqb e used) END ZEROS) = past_stops c.1 in
          let z : ◌≡◌ {A = ℕ} 0 1 = cc in
          omega arith
      before (inr c) = c.1

-- ---- Where a step comes to

-- p is where the rules look from E: E itself, or behind what is skipped there
data Reaches (k : ℕ) (t : List ℕ) (used e p : ℕ) : Type 0 where
  at_once : p ≡ e → Reaches k t used e p
  past_skip : move_at k t used e e ≡ go p → Reaches k t used e p

module _ (k : ℕ) (t : List ℕ) (used e : ℕ) where
  settled_refuses : (p : ℕ) (v : Move) → move_at k t used e p ≡ v → {n q : ℕ} → settled v ≡ walk.Step.refused n q → (q ≡ p) × (p < used)
  unfolding settled
  settled_refuses p (stop w) is h = absurd (let z : ◌≡◌ {A = ℕ} 0 1 = cc in omega arith)
  settled_refuses p (go r) is h = absurd (let z : ◌≡◌ {A = ℕ} 0 1 = cc in omega arith)
  settled_refuses p (refuse m r) is {n} {q} h =
      let at = refuse_at k t used e p is in
      let same : r ≡ q = cc in
      (sym same ∙ at.0, at.1)
  settled_refuses p (list a) is h = absurd (let z : ◌≡◌ {A = ℕ} 0 1 = cc in omega arith)

  skipped_refuses : (v : Move) → move_at k t used e e ≡ v → {n q : ℕ} → skipped k t used e v ≡ walk.Step.refused n q
      → Reaches k t used e q × (q < used)
  unfolding skipped
  skipped_refuses (stop w) is h = absurd (let z : ◌≡◌ {A = ℕ} 0 1 = cc in omega arith)
  skipped_refuses (go p) is h =
      let at = settled_refuses p (move_at k t used e p) refl h in
      (past_skip (is ∙ ap go (sym at.0)), omega (arith, at.0, at.1))
  skipped_refuses (refuse m r) is {n} {q} h =
      let at = refuse_at k t used e e is in
      let same : r ≡ q = cc in
      (at_once (sym same ∙ at.0), omega (arith, at.0, at.1))
  skipped_refuses (list a) is h = absurd (let z : ◌≡◌ {A = ℕ} 0 1 = cc in omega arith)

  -- a refusal's start
  reach_refused : {n p : ℕ} → step_from k t used e ≡ walk.Step.refused n p → Reaches k t used e p × (p < used)
  unfolding step_from
  reach_refused h = skipped_refuses (move_at k t used e e) refl h

  -- a listed entry's start
  reach_listed : {a : Entry} → step_from k t used e ≡ listed a → Reaches k t used e a.start × (a.start < used)
  reach_listed {a} h =
      elim (step_way k t used e a h) [
        | here is ↦ let l = list_listed k t used e e is in (at_once l.start, omega (arith, l.start, l.before_used))
        | behind {q = q} goes is ↦
            let l = list_listed k t used e q is in
            (past_skip (goes ∙ ap go (sym l.start)), omega (arith, l.start, l.before_used))
      ]

  reach_from : {p : ℕ} → Reaches k t used e p → e ≤ p
  reach_from (at_once h) = omega arith
  reach_from (past_skip goes) = omega (arith, go_ahead k t used e e goes, lt_next k e)

  -- the walk of the log that is cut there stops with what was listed before
  stops_there : {p : ℕ} → Reaches k t used e p → (w : Stop) × (walk_at k t p e e ≡ record { entries = []; ending = stopped w e })
  stops_there {p} (at_once h) = (END, ap (λ (c : ℕ). walk_at k t c e e) h ∙ walk_end k t e)
  stops_there {p} (past_skip goes) =
      let again : move_at k t p e e ≡ go p = go_same k t used t p p (omega arith) refl e goes (omega arith) in
      (pick (eqb e p) END ZEROS, walk_go k t p e e again ∙ walk_stop k t p e p (past_stops k t p e p (omega arith)))

  -- an entry that a step lists does not start before the place
  listed_from : {p : ℕ} {a : Entry} → Reaches k t used e p → step_from k t used e ≡ listed a → e ≤ a.start → p ≤ a.start
  listed_from (at_once h) step from = omega arith
  listed_from {p} {a} (past_skip goes) step from =
      elim (step_way k t used e a step) [
        | here is ↦ absurd (let both : ◌≡◌ {A = Move} (go p) (list a) = sym goes ∙ is in let z : ◌≡◌ {A = ℕ} 0 1 = cc in omega arith)
        | behind {q = q} skips is ↦
            let both : ◌≡◌ {A = Move} (go p) (go q) = sym goes ∙ skips in
            let same : p ≡ q = cc in
            omega (arith, (list_listed k t used e q is).start)
      ]

-- ---- The places of a walk: the starts of its entries, and of the entry that it is refused for

abbrev pub Place : ℕ → List Entry → Ending → Type 0
Place p [] (stopped w e) = ⊥
Place p [] (walk.Ending.refused n q) = q ≡ p
Place p (a ∷ rest) x = (a.start ≡ p) ⊎ Place p rest x

pub refusal_place : (es : List Entry) (n p : ℕ) → Place p es (walk.Ending.refused n p)
refusal_place [] n p = refl
refusal_place (a ∷ es) n p = inr (refusal_place es n p)

module _ (k : ℕ) (low : 6 ≤ k) (t : List ℕ) (used : ℕ) (image : used ≤ length t) where
  by_step : (e : ℕ) {x : Step} → step_from k t used e ≡ x → walk_at k t used e e ≡ after_step k t used e x
  by_step e is = walk_step_lem k t used low e ∙ ap (after_step k t used e) is

  -- what the walk from e lists starts at or past e, and ends by used; where it stops, it does so at or past e
  pub record Within (e : ℕ) (w : Walk) : Type 0 where
    pub starts : AllStartFrom e w.entries
    pub ends : AllEndBy used w.entries
    pub stops : (v : Stop) (f : ℕ) → w.ending ≡ stopped v f → (e ≤ f) × (f ≤ used)

  walk_within : (n e : ℕ) → e ≤ used → used < n + e → Within e (walk_at k t used e e)
  unfolding after_step listing
  walk_within zero e h l = absurd (omega arith)
  walk_within (suc n) e h l =
      from (λ a ahead. walk_within n (end_of a) ahead.inside (omega (arith, ahead.ahead))) (step_from k t used e) refl
    where
      Later : Type 0
      Later = (a : Entry) → Ahead used e a → Within (end_of a) (walk_at k t used (end_of a) (end_of a))

      from : Later → (x : Step) → step_from k t used e ≡ x → Within e (walk_at k t used e e)
      from later x is = subst (Within e) (sym (by_step e is)) (by later x is)
        where
          by : Later
              → (x : Step) → step_from k t used e ≡ x → Within e (after_step k t used e x)
          by later (listed a) is =
              let ahead : Ahead used e a = step_ahead k t used image e a is in
              let rest = later a ahead in
              record {
                starts = (
                  ahead.from,
                  start_later (walk_at k t used (end_of a) (end_of a)).entries (omega (arith, ahead.ahead)) rest.starts,
                );
                ends = (ahead.inside, rest.ends);
                stops = λ v f is. let there = rest.stops v f is in (omega (arith, ahead.ahead), there.1);
              }
          by later (walk.Step.stopped w) is =
              record { starts = tt; ends = tt; stops = λ v f is. let same : e ≡ f = cc in (omega arith, omega arith) }
          by later (walk.Step.refused m p) is =
              record { starts = tt; ends = tt; stops = λ v f is. absurd (let z : ◌≡◌ {A = ℕ} 0 1 = cc in omega arith) }

  pub from_within : (e : ℕ) → e ≤ used → Within e (walk_at k t used e e)
  from_within e h = walk_within (suc used) e h (omega arith)

  -- ---- The cut

  -- The walk from e, and the log cut at p: the walk lists the same entries up to p, and stops.
  pub record Stops (e p : ℕ) : Type 0 where
    pub ahead : p < used
    pub before : List Entry
    pub after : List Entry
    pub word : Stop
    pub end : ℕ
    pub first : (walk_at k t used e e).entries ≡ before ++ after
    pub walks : walk_at k t p e e ≡ record { entries = before; ending = stopped word end }
    pub ends_by : AllEndBy p before
    pub starts_from : AllStartFrom p after
    pub from : e ≤ end
    pub by : end ≤ p

  reach_starts : (e p : ℕ) → e ≤ used → Reaches k t used e p → AllStartFrom p (walk_at k t used e e).entries
  unfolding after_step listing
  reach_starts e p h reaches = from (step_from k t used e) refl
    where
      by : (x : Step) → step_from k t used e ≡ x → AllStartFrom p (after_step k t used e x).entries
      by (listed a) is =
          let ahead : Ahead used e a = step_ahead k t used image e a is in
          let there : p ≤ a.start = listed_from k t used e reaches is ahead.from in
          let rest = from_within (end_of a) ahead.inside in
          let far : p ≤ end_of a = unfold end_of in omega arith in
          (there, start_later (walk_at k t used (end_of a) (end_of a)).entries far rest.starts)
      by (walk.Step.stopped w) is = tt
      by (walk.Step.refused m q) is = tt

      from : (x : Step) → step_from k t used e ≡ x → AllStartFrom p (walk_at k t used e e).entries
      from x is = subst (λ (w : Walk). AllStartFrom p w.entries) (sym (by_step e is)) (by x is)

  stops_here : (e p : ℕ) → e ≤ used → Reaches k t used e p → p < used → Stops e p
  stops_here e p h reaches ahead =
      let stop = stops_there k t used e reaches in
      record {
        ahead = ahead;
        before = [];
        after = (walk_at k t used e e).entries;
        word = stop.0;
        end = e;
        first = refl;
        walks = stop.1;
        ends_by = tt;
        starts_from = reach_starts e p h reaches;
        from = omega arith;
        by = reach_from k t used e reaches;
      }

  stops_later : (e p : ℕ) (a : Entry) → step_from k t used e ≡ listed a → Stops (end_of a) p → Stops e p
  unfolding after_step listing
  stops_later e p a step later =
      let ahead : Ahead used e a = step_ahead k t used image e a step in
      let ends : end_of a ≤ p = omega (arith, later.from, later.by) in
      record {
        ahead = later.ahead;
        before = a ∷ later.before;
        after = later.after;
        word = later.word;
        end = later.end;
        first =
            ap (λ (w : Walk). w.entries) (by_step e step)
            ∙ ap (λ (es : List Entry). a ∷ es) later.first;
        walks =
            walk_step_lem k t p low e
            ∙ ap (after_step k t p e) (step_same k t used image a t p ends refl e step)
            ∙ ap (listing a) later.walks;
        ends_by = (ends, later.ends_by);
        starts_from = later.starts_from;
        from = omega (arith, ahead.ahead, later.from);
        by = later.by;
      }

  -- a place of the walk from e
  abbrev PlaceFrom : ℕ → ℕ → Type 0
  PlaceFrom e p = Place p (walk_at k t used e e).entries (walk_at k t used e e).ending

  place_stops : (n e : ℕ) → e ≤ used → used < n + e → (p : ℕ) → PlaceFrom e p → Stops e p
  unfolding after_step listing
  place_stops zero e h l p place = absurd (omega arith)
  place_stops (suc n) e h l p place =
      from (λ a ahead there. place_stops n (end_of a) ahead.inside (omega (arith, ahead.ahead)) p there) (step_from k t used e) refl
    where
      Later : Type 0
      Later = (a : Entry) → Ahead used e a → PlaceFrom (end_of a) p → Stops (end_of a) p

      by : Later
          → (x : Step) → step_from k t used e ≡ x → Place p (after_step k t used e x).entries (after_step k t used e x).ending → Stops e p
      by later (listed a) is (inl start) =
          let reach = reach_listed k t used e is in
          stops_here e p h (subst (Reaches k t used e) start reach.0) (omega (arith, reach.1))
      by later (listed a) is (inr there) = stops_later e p a is (later a (step_ahead k t used image e a is) there)
      by later (walk.Step.stopped w) is there = absurd there
      by later (walk.Step.refused m q) is there =
          let reach = reach_refused k t used e is in
          stops_here e p h (subst (Reaches k t used e) there reach.0) (omega (arith, reach.1))

      from : Later → (x : Step) → step_from k t used e ≡ x → Stops e p
      from later x is =
          by later x is (subst (λ (w : Walk). Place p w.entries w.ending) (by_step e is) place)

  -- at a place of the walk the log can be cut
  pub stops_at : (e p : ℕ) → e ≤ used → PlaceFrom e p → Stops e p
  stops_at e p h place = place_stops (suc used) e h (omega arith) p place
