-- The loop's invariant: the largest of `top` and of the registers from i on is the largest of all.
use Rattle.std.proofs.Common.{◌≡◌, max, drop}
use Rattle.lists.specs.Registers.{registers_of, largest}
use Rattle.lists.proofs.registers.largest_register.Given as goal

abbrev pub invariant-loop-i : goal.invariant-loop-i
invariant-loop-i l = max l.top (largest (drop l.i (registers_of l.p l.registers))) ≡ largest (registers_of l.p l.registers)
