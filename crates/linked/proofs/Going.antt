-- The loop over the indexed rounds, from the later block's down. Assumes nothing.
use mathlib.Core.Path.{◌≡◌, refl, sym, ap, ◌∙◌, subst}
use mathlib.Core.Bool.{Bool, true, false}
use mathlib.Core.List.{List, []}
use mathlib.Core.Logic.{⊎_elim}
use Prim.Native.Nat.{ℕ, suc, ◌+◌, ◌-◌, ◌*◌, ◌≤◌, ◌<◌}
use native.Mathlib.Omega.{arith}
use lib.Dec.{eqb}
use lib.ListN.{length, take, drop, length-take, length-drop}
use Rattle.std.proofs.Common.{Option, Some, None, Result, Ok, Err}
use Rattle.laws.specs.Pick.{pick}
use Rattle.laws.proofs.Tests.{eqb_cases}
use Rattle.refusal.specs.declared.Refusal.{Refusal}
use Rattle.rows.specs.Rows.{Ascending, below}
use Rattle.tables.specs.Tables.{EightWords}
use Rattle.rows.proofs.Rows.{rows_from_none}
use Rattle.rows.proofs.Places.{below_within}
use Rattle.types.specs.declared.BlockReference.{BlockReference}
use Rattle.filters.specs.Filters.{by_round}
use Rattle.query.specs.Query.{unloaded}
use Rattle.filters.specs.Segments.{between}
use Rattle.filters.proofs.Keeping.{between_rows}
use Rattle.filters.proofs.Segments.{round_key}
use Rattle.reach.specs.declared.Searched.{Searched}
use Rattle.reach.specs.Blocks.{Indexed, all, read_blocks}
use Rattle.includes.specs.Includes.{includes_of, Parses}
use Rattle.reach.specs.Reaching.{AllBlockPlaces, Held, Ready, reached_in, parents_of, next_parents, meets, Marked, searched_of}
use Rattle.reach.proofs.Appending.{unloaded_most}
use Rattle.linked.proofs.Descending.{round_at, to_within, down_ends, round_below, round_from, down_round, from_below, part_round}
use Rattle.linked.proofs.Searching.{Searching, nearest, Answered, told_failed, told_all, searching_start, searching_same, searched_all, searched_failed, searching_next}

between_none : (to : ℕ) (w : List ℕ) → between to (to + 0) w ≡ []
between_none to w = between_rows to (to + 0) w ∙ rows_from_none w to (to + 0) (omega arith)

-- ---- The loop: `to` is the first row from the round `above` on, where the p rows of the parents begin

pub record Going (k : ℕ) (s : List ℕ) (used : ℕ) (bytes : List ℕ) (earlier : BlockReference) (high : ℕ) (rows : List (List ℕ)) (work₀ : List ℕ)
    (to : ℕ) (p : Option ℕ) (above u : ℕ) (found : Bool) (work : List ℕ) : Type 0 where
  pub place : to ≡ below (round_key above) rows
  held : Held s p to work
  pub few : u + to ≤ length rows
  searching : Searching k s used earlier high (includes_of bytes) rows above u found (parents_of s bytes p to work)
  pub room : 8 * length rows ≤ length work
  pub as_long : length work ≡ length work₀

module _ {k : ℕ} {s : List ℕ} {used : ℕ} {bytes : List ℕ} {earlier : BlockReference} {high : ℕ} {rows : List (List ℕ)} where
  pub going_start : (work : List ℕ) {to : ℕ} → 8 * length rows ≤ length work → to ≡ below (round_key high) rows
      → Going k s used bytes earlier high rows work to None high 0 false work
  unfolding parents_of
  going_start work {to} room is =
      record {
        place = is;
        held = tt;
        few = omega (arith, below_within (round_key high) rows);
        searching = searching_start k s used earlier high (includes_of bytes) rows;
        room = room;
        as_long = refl;
      }

  module _ (eights : EightWords rows) (ascends : Ascending rows) {first : ℕ}
      (starts : first ≡ below (round_key earlier.round) rows) {work₀ : List ℕ} {to : ℕ} {p : Option ℕ} {above u : ℕ} {found : Bool} {work : List ℕ}
      (h : Going k s used bytes earlier high rows work₀ to p above u found work) where
    pub going_done : to ≤ first → {f : Bool} → f ≡ pick found (eqb above earlier.round) false
        → Answered k s used earlier high (includes_of bytes) rows (Ok (record { unloaded = u; found = f }))
    going_done none is =
        searched_all k s used earlier high (includes_of bytes) rows h.searching
        (down_ends rows eights ascends earlier.round above starts h.place none) is

    module _ (more : first < to) {round : ℕ} (is : round ≡ round_at rows (to - 1)) where
      pub going_below : round < above
      going_below = round_below rows eights ascends earlier.round above starts h.place more is

      module _ {q : Option ℕ} (parents : q ≡ pick (eqb above (suc round)) p (Some 0)) where
        -- either parents
        by_pair : (P : Option ℕ → Type 0) → (eqb above (suc round) ≡ true → P p) → (eqb above (suc round) ≡ false → P (Some 0)) → P q
        unfolding pick
        by_pair P f g =
            subst P (sym parents)
            (⊎_elim (λ t. rw t.0 (f t.0)) (λ n. rw n.0 (g n.0)) (eqb_cases above (suc round)))

        ready : Parses bytes → Ready s bytes q to work
        ready parses =
            let within : to ≤ length rows = to_within rows eights ascends earlier.round above starts h.place in
            by_pair (λ p. Ready s bytes p to work)
            (λ t. record { held = h.held; parses = parses })
            (λ t.
            record {
              held = (omega (arith, h.room), subst (AllBlockPlaces s) (sym (between_none to work)) tt);
              parses = parses;
            })

        nearest_these : parents_of s bytes q to work ≡ nearest above round (parents_of s bytes p to work)
        unfolding pick parents_of reached_in
        nearest_these =
            by_pair
            (λ q. parents_of s bytes q to work ≡ nearest above round (parents_of s bytes p to work))
            (λ t. sym (rw t))
            (λ t. ap (reached_in s) (between_none to work) ∙ sym (rw t))

        module _ {from : ℕ} (begins : from ≡ below (round_key round) rows) where
          pub going_from : from < to
          going_from = from_below rows eights ascends earlier.round above starts h.place more is begins

          -- the rows of the round
          abbrev these : List (List ℕ)
          these = take (to - from) (drop from rows)

          of_round : these ≡ by_round round rows
          of_round = part_round rows eights ascends earlier.round above starts h.place more is begins

          ends : from + length these ≡ to
          ends = omega (arith, going_from, to_within rows eights ascends earlier.round above starts h.place, length-take (to - from) (drop from rows), length-drop from rows)

          pub going_room : 8 * (from + length these) ≤ length work
          going_room = omega (arith, ends, h.room, to_within rows eights ascends earlier.round above starts h.place)

          pub going_ready : Parses bytes → Ready s bytes q (from + length these) work
          going_ready parses = rw ends (ready parses)

          module _ {o : Result Searched Refusal}
              (search : o ≡ searched_of (meets earlier (parents_of s bytes q (from + length these) work)) these (read_blocks k s used these)) where
            searched : o ≡ searched_of (meets earlier (parents_of s bytes q to work)) these (read_blocks k s used these)
            searched = rw ends at search

            pub going_refused : {e : Refusal} → o ≡ Err e → Answered k s used earlier high (includes_of bytes) rows (Err e)
            going_refused fails =
                let told = told_failed _ these _ (sym fails ∙ searched) in
                ap Err told.2
                ∙ searched_failed k s used earlier high (includes_of bytes) rows h.searching round
                (down_round rows eights ascends earlier.round above starts h.place more is)
                (ap (read_blocks k s used) (sym of_round) ∙ told.1)

            module _ {r : Searched} (passes : o ≡ Ok r) where
              told : (blocks : List Indexed)
                  × (read_blocks k s used these ≡ all blocks)
                  × (r.unloaded ≡ unloaded these)
                  × (r.found ≡ meets earlier (parents_of s bytes q to work) blocks)
              told = told_all _ these _ (sym passes ∙ searched)

              pub going_few : u + r.unloaded + from ≤ length rows
              going_few =
                  omega (arith, told.2, unloaded_most these, ends, h.few)

              pub going_next : {work' : List ℕ}
                  → Marked s (parents_of s bytes q (from + length these) work) (between from (from + length these) work') (read_blocks k s used these)
                  → length work' ≡ length work → Going k s used bytes earlier high rows work₀ from (Some (to - from)) round (u + r.unloaded) r.found work'
              unfolding parents_of
              going_next {work'} marks same_length =
                  let blocks : List Indexed = told.0 in
                  let counted : from + (to - from) ≡ to = omega (arith, going_from) in
                  let marked = subst (Marked s (parents_of s bytes q to work) (between from to work')) told.1 (rw ends at marks) in
                  let next =
                  searching_next k s used earlier high (includes_of bytes) rows h.searching round
                  (down_round rows eights ascends earlier.round above starts h.place more is)
                  (round_from rows eights ascends earlier.round above starts h.place more is) going_below
                  (ap (read_blocks k s used) (sym of_round) ∙ told.1) in
                  let loads : u + unloaded (by_round round rows) ≡ u + r.unloaded = ap (◌+◌ u) (sym (told.2 ∙ ap unloaded of_round)) in
                  let meeting : meets earlier (nearest above round (parents_of s bytes p to work)) blocks ≡ r.found =
                  sym (told.3 ∙ ap (λ (l : List (List BlockReference)). meets earlier l blocks) nearest_these) in
                  let parents' : next_parents (nearest above round (parents_of s bytes p to work)) blocks ≡ parents_of s bytes (Some (to - from)) from work' =
                  sym (marked.1 ∙ ap (λ (l : List (List BlockReference)). next_parents l blocks) nearest_these)
                  ∙ ap (λ (m : ℕ). reached_in s (between from m work')) (sym counted) in
                  let within : to ≤ length rows = to_within rows eights ascends earlier.round above starts h.place in
                  let room : 8 * length rows ≤ length work' = omega (arith, h.room, same_length) in
                  record {
                    place = begins;
                    held = rw counted (omega arith, marked.0);
                    few = going_few;
                    searching =
                        searching_same k s used earlier high (includes_of bytes) rows next loads meeting parents';
                    room = room;
                    as_long = same_length ∙ h.as_long;
                  }
