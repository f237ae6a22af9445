-- `insert::reference_in` meets its contract: a block's bytes, or an own block's. Assumes nothing.
use mathlib.Core.Path.{sym, ap}
use Rattle.laws.specs.Pick.{pick}
use Rattle.refusal.specs.Refusals.{refusal_of}
use Rattle.insert.specs.Insert.{reference_in}
use Rattle.insert.proofs.Decoding.{block_undecoded, block_decoded, own_undecoded, own_decoded}
use Rattle.insert.proofs.reference_in.Goals as goal

pub returns-in_default : goal.returns-in_default
unfolding refusal_of pick
returns-in_default c = let a = c.args in sym (ap reference_in (block_undecoded a.tag a.payload.now c.if-tag-eq1.true c.in_default.ensures))

pub returns-then-tag-eq1 : goal.returns-then-tag-eq1
returns-then-tag-eq1 c = let a = c.args in sym (ap reference_in (block_decoded a.tag a.payload.now c.if-tag-eq1.true c.in-Some.ensures))

pub returns-in_default-decode : goal.returns-in_default-decode
unfolding refusal_of pick
returns-in_default-decode c = let a = c.args in sym (ap reference_in (own_undecoded a.tag a.payload.now c.if-tag-eq1.false c.in_default-decode.ensures))

pub returns : goal.returns
returns c = let a = c.args in sym (ap reference_in (own_decoded a.tag a.payload.now c.if-tag-eq1.false c.in-Some-decode.ensures))
