-- The loop's invariant: the registers before t are those lowered, the others as they were, so that a block is read as it was.
use Rattle.std.proofs.Common.{◌-◌, ◌^◌, ◌++◌, drop}
use Rattle.lists.specs.Registers.{registers_of, lowered}
use Rattle.lists.proofs.RegisterLaws.{Done}
use Rattle.lists.proofs.registers.lower_registers.Given as goal

abbrev pub invariant-loop-t : goal.invariant-loop-t
invariant-loop-t l = Done l.p (lowered l.d (l.p - l.d) (registers_of l.p l.initial.registers) ++ drop (2 ^ (l.p - l.d)) (registers_of l.p l.initial.registers)) l.initial.registers l.registers l.t
