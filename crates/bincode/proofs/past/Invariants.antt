-- `bincode::past` meets its contract. Assumes nothing.
use Rattle.std.proofs.Common.{◌-◌}
use Rattle.laws.proofs.Parses.{Passing}
use Rattle.bincode.proofs.past.Given as goal

abbrev pub invariant-loop : goal.invariant-loop
invariant-loop g l = Passing g.T.Decode.parser l.s l.n l.at (l.n - l.counter) l.p
