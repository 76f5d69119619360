-- The loop's invariant: the values left raise the registers to those of the whole list.
use Rattle.std.proofs.Common.{◌-◌}
use Rattle.lists.proofs.RankLaws.{lower_index, lower_rank}
use Rattle.lists.proofs.RegisterLaws.{Setting}
use Rattle.lists.proofs.registers.set_registers.Given as goal

abbrev pub invariant-loop-v : goal.invariant-loop-v
invariant-loop-v l = Setting (l.enc.normal_precision - l.d) (lower_index l.enc.normal_precision l.enc.sparse_precision l.d) (lower_rank l.enc.normal_precision l.enc.sparse_precision l.d) l.list l.initial.registers l.registers l.v-index
