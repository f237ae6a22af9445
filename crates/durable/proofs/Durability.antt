-- The theorem: nothing that was acknowledged is lost. Assumes nothing.
use Rattle.durable.specs.Durable.{Durability}
use Rattle.durable.proofs.Recoveries.{not_refused}
use Rattle.durable.proofs.Images.{walk_lists, walk_stops, walk_refused, recovers, recovery_refused}
use Rattle.durable.proofs.Loop.{loop, cuts_down}
use Rattle.durable.proofs.Calls.{called}

pub durability : Durability
durability k L s size own lent word l given t used h =
    let at = not_refused k s L size own lent given in
    record {
      lists = walk_lists k L s size own lent at t used h;
      walk_stops = walk_stops k L s size own lent at t used h;
      walk_refused = walk_refused k L s size own lent at t used h;
      recovers = recovers k L s size own lent at t used h;
      recovery_refused = recovery_refused k L s size own lent at t used h;
      calls = called k L s size own lent at t used h;
      loop = loop k L s size own lent at t used h;
      cuts_down = cuts_down k L s size own lent at t used h;
    }
