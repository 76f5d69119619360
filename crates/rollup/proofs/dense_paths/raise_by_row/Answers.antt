-- At one precision the larger of both rows, and else the larger of the one and the other lowered, both by lists.
use Rattle.rollup.proofs.DenseLaws.{row_lower, row_lowered, row_both, row_larger}
use Rattle.rollup.proofs.dense_paths.raise_by_row.Goals as goal

pub downgrade_registers_max_into-requires : goal.downgrade_registers_max_into-requires
downgrade_registers_max_into-requires c = row_lower c.args.q c.args.p c.args.row.now c.args.registers.now c.requires c.if-q-p.true

pub returns-then-q-p : goal.returns-then-q-p
returns-then-q-p c = row_lowered c.args.q c.args.p c.args.row.now c.args.registers.now c.requires _ c.if-q-p.true c.downgrade_registers_max_into.ensures

pub max_into-requires : goal.max_into-requires
max_into-requires c = row_both c.args.q c.args.p c.args.row.now c.args.registers.now c.requires c.if-q-p.false

pub returns-else-q-p : goal.returns-else-q-p
returns-else-q-p c = row_larger c.args.q c.args.p c.args.row.now c.args.registers.now c.requires _ c.if-q-p.false c.max_into.ensures
