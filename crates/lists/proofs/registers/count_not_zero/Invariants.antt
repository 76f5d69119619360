-- The loop's invariant: the count and the registers from i on that are not zero make the whole count.
use Rattle.lists.specs.Registers.{registers_of}
use Rattle.lists.proofs.RegisterLaws.{CountingNotZero}
use Rattle.lists.proofs.registers.count_not_zero.Given as goal

abbrev pub invariant-loop-i : goal.invariant-loop-i
invariant-loop-i l = CountingNotZero (registers_of l.p l.registers) l.count l.i
