-- Each turn reads a field as the general reader does, so the fields read so far and the rest of the bytes make up the state (`StateGoing`).
use Prim.Native.Nat.{◌-◌}
use lib.ListN.{length}
use Rattle.wire.proofs.StateLaws.{StateGoing}
use Rattle.wire.proofs.compact.parse_compact.Given as goal

abbrev pub invariant-loop-c : goal.invariant-loop-c
invariant-loop-c l = StateGoing l.s l.c.at l.f

abbrev pub decreases-loop-c : goal.decreases-loop-c
decreases-loop-c l = length l.s - l.c.at
