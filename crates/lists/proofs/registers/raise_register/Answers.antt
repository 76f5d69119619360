-- The byte at the index becomes the larger of itself and the rank.
use Rattle.lists.proofs.RegisterLaws.{held, raise_post}
use Rattle.lists.proofs.registers.raise_register.Goals as goal

pub bounds-registers-i : goal.bounds-registers-i
bounds-registers-i c = held c.args.i c.args.registers.now c.requires

pub bounds-registers-i-2 : goal.bounds-registers-i-2
bounds-registers-i-2 c = held c.args.i c.args.registers.now c.requires

pub returns : goal.returns
returns c = raise_post c.args.registers.now c.args.i c.args.rank c.max.result c.max.ensures
