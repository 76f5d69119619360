-- The byte at the index is the register, at every precision at which the bytes hold it.
use Rattle.std.proofs.Common.{refl}
use Rattle.lists.proofs.RegisterLaws.{held, read_post}
use Rattle.lists.proofs.registers.read_register.Goals as goal

pub bounds-registers-i : goal.bounds-registers-i
bounds-registers-i c = held c.args.i c.args.registers.now c.requires

pub returns : goal.returns
returns c = read_post c.args.registers.now c.args.i _ refl
