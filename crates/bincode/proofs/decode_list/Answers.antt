-- `bincode::decode_list` meets its contract. Assumes nothing.
use mathlib.Core.Path.{◌≡◌}
use Rattle.laws.specs.Parse.{answer, then, number, many, got}
use Rattle.laws.proofs.Parses.{number_found, many_length}
use Rattle.bincode.specs.Bincode.{vec}
use Rattle.bincode.proofs.Found.{told, nothing, end_none, end_told}
use Rattle.bincode.proofs.decode_list.Goals as goal

pub returns-in_err-n : goal.returns-in_err-n
unfolding answer vec then
returns-in_err-n g c = rw (c.from_residual.ensures, nothing (number 8 c.args.s.now c.args.at) c.in_err-n.ensures)

pub returns-in_err-end : goal.returns-in_err-end
unfolding answer vec then
returns-in_err-end g c =
    rw (
      c.from_residual-in_err-end.ensures,
      told (number 8 c.args.s.now c.args.at) c.in_ok-n.ensures,
      end_none (many g.T.Decode.parser c.in_ok-n.n c.args.s.now c.in_ok-n.first) c.in_err-end.ensures,
    )

pub returns : goal.returns
unfolding answer vec then
returns g c =
    let count : number 8 c.args.s.now c.args.at ≡ got c.in_ok-n.n c.in_ok-n.first = told _ c.in_ok-n.ensures in
    let m = end_told (many g.T.Decode.parser c.in_ok-n.n c.args.s.now c.in_ok-n.first) c.in_ok-end.ensures in
    rw (count, m.1, many_length g.T.Decode.parser c.args.s.now c.in_ok-n.n c.in_ok-n.first m.1, (number_found 8 c.args.s.now c.args.at count).end)
