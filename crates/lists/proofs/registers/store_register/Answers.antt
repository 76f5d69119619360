-- A byte stored at the index is a register set, and the bytes past the registers stay.
use Rattle.lists.proofs.RegisterLaws.{held, store_post}
use Rattle.lists.proofs.registers.store_register.Goals as goal

pub bounds-registers-i : goal.bounds-registers-i
bounds-registers-i c = held c.args.i c.args.registers.now c.requires

pub returns : goal.returns
returns c = store_post c.args.registers.now c.args.i c.args.r
