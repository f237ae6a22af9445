-- Request 13: the list of small payloads is complete, ordered and without repeats, and each encodes to itself. Assumes nothing.
use mathlib.Core.Path.{◌≡◌, refl, subst}
use mathlib.Core.List.{List, []}
use Prim.Native.Nat.{ℕ, ◌<◌}
use lib.ListN.{length, get_or}
use Rattle.laws.specs.Numbers.{numbers_from}
use Rattle.laws.proofs.Ascending.{ascending_of, ascending_at, ascending_unique}
use Rattle.payloads.specs.Small.{Before, small_payloads}
use Rattle.payloads.specs.Request13.{Lists, Request13}
use Rattle.payloads.proofs.Values.{complete, sound}
use Rattle.payloads.proofs.Order.{before_irreflexive, before_trans, list_ascends}
use Rattle.payloads.proofs.Again.{own_bytes, encodes_to_itself}
use Rattle.payloads.proofs.Lines.{text_whole}

pub count : length small_payloads ≡ 258
unfolding small_payloads numbers_from
count = refl

ordered : (i j : ℕ) → i < j → j < length small_payloads → Before (get_or small_payloads i []) (get_or small_payloads j [])
ordered = ascending_at Before before_trans [] small_payloads list_ascends

only : (l : List (List ℕ)) → Lists l → l ≡ small_payloads
only l p =
    ascending_unique Before before_trans before_irreflexive l small_payloads (ascending_of Before [] l p.ordered) list_ascends
    (λ s m. complete s (p.sound s m)) (λ s m. p.complete s (sound s m))

pub request_13 : Request13
request_13 =
    record {
      lists = record { complete = complete; sound = sound; ordered = ordered };
      distinct = λ i j h k e. before_irreflexive _ (subst (λ (s : List ℕ). Before s (get_or small_payloads j [])) e (ordered i j h k));
      count = count;
      again = λ s m. own_bytes (sound s m);
      again_called = λ s m. encodes_to_itself s (sound s m);
      text = λ out r after size put. text_whole size put;
      only = only;
    }
