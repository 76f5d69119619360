-- The loop's invariant: the registers before i are the larger of both rows, the others as they were.
use Rattle.lists.specs.Registers.{registers_of, larger}
use Rattle.lists.proofs.RegisterLaws.{Done}
use Rattle.lists.proofs.registers.max_into.Given as goal

abbrev pub invariant-loop-i : goal.invariant-loop-i
invariant-loop-i l = Done l.p (larger (registers_of l.p l.initial.target) (registers_of l.p l.source)) l.initial.target l.target l.i
