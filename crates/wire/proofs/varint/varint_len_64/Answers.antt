use native.Mathlib.Omega.{arith}
use borrow.Author.Rules.{rules}
use Rattle.wire.proofs.VarintLaws.{counted_none, counted_more, counted_le, counted_last}
use Rattle.wire.proofs.varint.varint_len_64.Goals as goal

pub loop-rest-init : goal.loop-rest-init
loop-rest-init c = counted_none c.args.v (omega (arith, c.ranges.v.fits))

pub overflow_add-n : goal.overflow_add-n
overflow_add-n c = omega (arith, counted_le c.loop-rest.invariant)

pub loop-rest-preserved : goal.loop-rest-preserved
loop-rest-preserved c = counted_more c.loop-rest-test.true c.loop-rest.invariant

pub returns : goal.returns
returns c = counted_last (search rules) c.loop-rest.invariant
