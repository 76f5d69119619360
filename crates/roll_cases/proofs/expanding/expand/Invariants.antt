-- `expand` meets its contract: what is left of the line, behind what stands there, is the whole.
use mathlib.Core.Path.{◌≡◌}
use mathlib.Core.List.{[]}
use Prim.Native.Nat.{◌≤◌}
use lib.ListN.{length, take}
use Rattle.console.specs.Input.{onto}
use Rattle.roll_cases.specs.Expanding.{line_bytes}
use Rattle.roll_cases.proofs.expanding.expand.Given as goal

abbrev pub invariant-loop-word : goal.invariant-loop-word
invariant-loop-word l = (l.n ≤ length l.out) × (length l.out ≡ length l.initial.out) × (onto [] (line_bytes l.line) ≡ onto (take l.n l.out) (line_bytes l.word-iterator.rest.now)) × (l.word-iterator.end ≡ 32)
