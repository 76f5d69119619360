-- `put_times` meets its contract: what is left to put, behind what stands there, is what there was at the start.
use mathlib.Core.Path.{◌≡◌}
use Prim.Native.Nat.{◌≤◌, ◌-◌}
use lib.ListN.{length, take}
use Rattle.console.specs.Input.{hex_of, onto}
use Rattle.roll_cases.specs.Expanding.{times_of}
use Rattle.roll_cases.proofs.expanding.put_times.Given as goal

abbrev pub invariant-loop : goal.invariant-loop
invariant-loop l = (l.at ≤ length l.out) × (length l.out ≡ length l.initial.out) × (onto (take l.start l.initial.out) (times_of l.n (hex_of l.piece)) ≡ onto (take l.at l.out) (times_of (l.n - l.counter) (hex_of l.piece)))
