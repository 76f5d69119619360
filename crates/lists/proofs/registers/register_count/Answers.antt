-- A shift of 1 by at most 24 places loses no bit.
use Rattle.std.proofs.Common.{arith}
use Rattle.lists.proofs.RegisterLaws.{count_is}
use Rattle.lists.proofs.registers.register_count.Goals as goal

pub returns : goal.returns
returns c = count_is 32 c.args.p c.requires (omega arith)
