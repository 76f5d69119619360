use Rattle.std.proofs.Common.{rules}
use Rattle.wire.proofs.StateLaws.{hll_going_start, hll_going_next, hll_going_end}
use Rattle.wire.proofs.compact.compact_hll.Goals as goal

pub loop-c-init : goal.loop-c-init
loop-c-init c = (hll_going_start _ _ _, c.requires)

pub loop-c-preserved : goal.loop-c-preserved
loop-c-preserved c = (hll_going_next c.loop-c.invariant.0 c.loop-c-test.true c.in_ok-h.ensures, c.loop-c.invariant.1)

pub returns : goal.returns
returns c = hll_going_end c.loop-c.invariant.0 (search rules)
