-- `bincode::decode_array` meets its contract. Assumes nothing.
use mathlib.Core.Path.{sym, ◌∙◌}
use Rattle.std.proofs.lemmas.List.{length-replicate}
use Rattle.laws.specs.Bytes.{bytes_at}
use Rattle.laws.specs.Parse.{answer, then}
use Rattle.bincode.specs.Bincode.{exactly, byte_string}
use Rattle.bincode.proofs.Found.{told_none, exactly_other, exactly_got, part_of, part_length}
use Rattle.bincode.proofs.decode_array.Goals as goal

pub returns-in_err-bytes : goal.returns-in_err-bytes
unfolding answer exactly then
returns-in_err-bytes g c = rw (c.from_residual.ensures, told_none _ (byte_string c.args.s.now c.args.at) c.in_err-bytes.ensures)

pub returns-then-bytes : goal.returns-then-bytes
unfolding answer
returns-then-bytes g c = rw (exactly_other c.args.s.now c.args.at c.in_ok-bytes.ensures g.row.N c.if-bytes.true)

pub copy_from_slice-requires : goal.copy_from_slice-requires
unfolding bytes_at
copy_from_slice-requires g c =
    rw (part_of c.args.s.now c.args.at c.in_ok-bytes.ensures g.row.N c.if-bytes.false)
    (length-replicate g.row.N 0 ∙ sym (part_length c.args.s.now c.args.at c.in_ok-bytes.ensures g.row.N c.if-bytes.false))

pub returns : goal.returns
unfolding answer bytes_at
returns g c =
    rw (
      c.copy_from_slice.ensures.after,
      part_of c.args.s.now c.args.at c.in_ok-bytes.ensures g.row.N c.if-bytes.false,
      exactly_got c.args.s.now c.args.at c.in_ok-bytes.ensures g.row.N c.if-bytes.false,
    )
