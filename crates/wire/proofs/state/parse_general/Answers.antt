use Rattle.std.proofs.Common.{rules}
use Rattle.wire.proofs.StateLaws.{state_going_start, state_going_next, state_going_refused, state_going_end}
use Rattle.wire.proofs.state.parse_general.Goals as goal

pub loop-c-init : goal.loop-c-init
loop-c-init c = state_going_start _ _ c.empty-f.ensures

pub returns-in_err-f : goal.returns-in_err-f
returns-in_err-f c = state_going_refused c.loop-c.invariant c.loop-c-test.true c.in_err-f.ensures _ c.from_residual.ensures.1

pub loop-c-preserved : goal.loop-c-preserved
loop-c-preserved c = state_going_next c.loop-c.invariant c.loop-c-test.true c.in_ok-f.ensures

pub returns : goal.returns
returns c = state_going_end c.loop-c.invariant (search rules)
