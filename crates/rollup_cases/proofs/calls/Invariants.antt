-- `calls` is safe and ends: each line leaves less of the text.
use Prim.Native.Nat.{◌≤◌}
use lib.ListN.{length}
use Rattle.rollup_cases.proofs.calls.Given as goal

abbrev pub invariant-loop-head : goal.invariant-loop-head
invariant-loop-head g l = length l.rest ≤ length l.text

abbrev pub decreases-loop-head : goal.decreases-loop-head
decreases-loop-head g l = length l.rest
