-- The bytes of the registers become zero, and those past them stay.
use Rattle.std.proofs.Common.{rules}
use Rattle.lists.proofs.RegisterLaws.{cleared}
use Rattle.lists.proofs.registers.clear_registers.Goals as goal

pub returns : goal.returns
returns c = cleared c.args.p c.register_bytes.result c.args.registers.now c.fill.new.self c.register_bytes.ensures.0 (search rules)
