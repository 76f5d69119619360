-- The loop's invariant: the registers before t are the larger of both rows, the others as they were.
use Rattle.std.proofs.Common.{◌+◌}
use Rattle.lists.specs.Registers.{registers_of, larger, lowered}
use Rattle.lists.proofs.RegisterLaws.{Done}
use Rattle.lists.proofs.registers.downgrade_registers_max_into.Given as goal

abbrev pub invariant-loop-t : goal.invariant-loop-t
invariant-loop-t l = Done l.q (larger (registers_of l.q l.initial.target) (lowered l.d l.q (registers_of (l.q + l.d) l.source))) l.initial.target l.target l.t
