-- Registers of the smaller precision are as they were; others are lowered in place by lists.
use Rattle.rollup.proofs.DenseLaws.{own_kept}
use Rattle.rollup.proofs.dense_paths.lower_own.Goals as goal

pub returns-else-q-p : goal.returns-else-q-p
returns-else-q-p c = own_kept c.args.p c.args.other c.args.registers.now c.requires c.min-q.ensures c.if-q-p.false
