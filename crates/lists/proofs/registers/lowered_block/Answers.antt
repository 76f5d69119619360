-- The first register of the block where it is not zero, and else the first that is not, gives what lowering register by register gives.
use Rattle.std.proofs.Common.{arith}
use Rattle.lists.proofs.RegisterLaws.{code_read, code_small, code_scan, code_decides, code_block}
use Rattle.lists.proofs.registers.lowered_block.Goals as goal

pub read_register-r-requires : goal.read_register-r-requires
read_register-r-requires c = code_read c.args.registers.now c.args.d c.args.t c.register_count-block.result c.requires c.register_count-block.ensures.0

pub overflow_add-result : goal.overflow_add-result
overflow_add-result c = omega (arith, code_small c.args.registers.now c.args.d c.args.t c.register_count-block.result c.requires c.register_count-block.ensures.0 c.read_register-r.result c.read_register-r.ensures)

pub returns-then-r-ne0 : goal.returns-then-r-ne0
returns-then-r-ne0 c = code_decides c.args.registers.now c.args.d c.args.t c.register_count-block.result c.requires c.register_count-block.ensures.0 c.read_register-r.result c.read_register-r.ensures c.if-r-ne0.true

pub first_not_zero-at-requires : goal.first_not_zero-at-requires
first_not_zero-at-requires c = code_scan c.args.registers.now c.args.d c.args.t c.register_count-block.result c.requires c.register_count-block.ensures.0

pub returns : goal.returns
returns c = code_block c.args.registers.now c.args.d c.args.t c.register_count-block.result c.requires c.register_count-block.ensures.0
    c.read_register-r.result c.offset_rank.result c.first_not_zero-at.result c.read_register-r.ensures c.if-r-ne0.false c.first_not_zero-at.ensures c.offset_rank.ensures
