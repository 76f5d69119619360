-- The loop's invariant: no register from `from` on and before i is other than zero.
use Rattle.lists.proofs.RegisterLaws.{Scanned}
use Rattle.lists.proofs.registers.first_not_zero.Given as goal

abbrev pub invariant-loop-i : goal.invariant-loop-i
invariant-loop-i l = Scanned l.registers l.from l.to l.i
