-- The fields read so far and the rest of the message make up the whole (`HllGoing`): each turn moves one field over, and a refused field
-- refuses the message.
use Prim.Native.Nat.{◌+◌, ◌-◌, ◌<◌, ◌^◌}
use lib.ListN.{length}
use Rattle.wire.proofs.StateLaws.{HllGoing}
use Rattle.wire.proofs.state.parse_hll.Given as goal

abbrev pub invariant-loop-c : goal.invariant-loop-c
invariant-loop-c l = HllGoing l.m l.base l.c.at l.fn.earlier l.h × (l.base + length l.m < 2 ^ 64)

abbrev pub decreases-loop-c : goal.decreases-loop-c
decreases-loop-c l = length l.m - l.c.at
