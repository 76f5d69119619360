-- `read_all` meets its contract: n counts the bytes that came, which lie inside the buffer, and each turn that goes on has more of them.
use mathlib.Core.Path.{◌≡◌}
use Prim.Native.Nat.{◌-◌, ◌≤◌}
use lib.ListN.{length}
use Rattle.console.proofs.input.read_all.Given as goal

abbrev pub invariant-loop-m : goal.invariant-loop-m
invariant-loop-m g l = (l.n ≤ length l.buf) × (length l.buf ≡ length l.initial.buf)

abbrev pub decreases-loop-m : goal.decreases-loop-m
decreases-loop-m g l = length l.initial.buf - l.n
