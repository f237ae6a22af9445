-- The theorem of demand 3. Assumes nothing.
use Prim.Native.Nat.{◌^◌, ◌≤◌}
use native.Mathlib.Omega.{arith}
use lib.ListN.{length}
use Rattle.cut.specs.PlainLog.{no_entries, log_bytes}
use Rattle.cut.specs.Cut.{LogImage, after, final_log, Demand3OfAll}
use Rattle.cut.proofs.Calls.{calls}
use Rattle.cut.proofs.Layouts.{LaidLog, laid_empty, laid_log, length_bytes}
use Rattle.cut.proofs.Appending.{Holding, empty, run, same_seen}
use Rattle.cut.proofs.Reading.{reads_back}
use Rattle.cut.proofs.Recovering.{recovers}
use Rattle.cut.proofs.Resuming.{restores}

pub demand_3 : Demand3OfAll
unfolding log_bytes
demand_3 k least most image appends tags =
    let st : LogImage = record { used = 0; image = image } in
    let held : Holding (length image) (final_log k image appends) (after k st appends) =
    run k least most (length image) no_entries st appends (empty image) in
    let laid : LaidLog k (final_log k image appends) = laid_log k (length image) no_entries appends tags (laid_empty k) in
    let below : (final_log k image appends).end ≤ 2 ^ 40 = omega (arith, held.fits) in
    record {
      calls = calls k;
      plain = same_seen k least most (length image) no_entries st appends (empty image);
      in_all = omega (arith, length_bytes laid.laid, laid.ends);
      reading = reads_back k least most (final_log k image appends) laid below;
      recovering =
          λ c found by holds.
          recovers k least most (final_log k image appends) below c found by holds
          (reads_back k least most (final_log k image appends) laid below c found by holds);
      appending = λ c found by holds room. restores k (final_log k image appends) laid below c found by holds least most room;
    }
