-- `read_values` meets its contract: the values at the front, and what the rest of the word makes of them (`values_in`).
use mathlib.Core.Path.{◌≡◌}
use Prim.Native.Nat.{◌+◌, ◌*◌, ◌-◌, ◌≤◌, ◌<◌}
use lib.ListN.{length, take, drop}
use Rattle.console.specs.Input.{onto}
use Rattle.console.specs.Text.{values_in}
use Rattle.console.proofs.text.read_values.Given as goal

abbrev pub invariant-loop-piece : goal.invariant-loop-piece
invariant-loop-piece l = (l.n ≤ length l.out) × (length l.out ≡ length l.initial.out) × (values_in (length l.initial.out) l.word ≡ onto (take l.n l.out) (values_in (length l.initial.out - l.n) l.piece-iterator.rest.now)) × (0 < length l.piece-iterator.rest.now → 2 * l.n + length l.piece-iterator.rest.now ≤ length l.word) × (drop l.n l.out ≡ drop l.n l.initial.out) × (l.piece-iterator.end ≡ 44)
