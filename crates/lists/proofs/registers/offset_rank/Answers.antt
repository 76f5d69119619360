-- The leading zeros of 32 digits are those of d digits and 32 - d more; 2^d has 31 - d.
use Rattle.std.proofs.Common.{arith}
use Rattle.lists.proofs.RegisterLaws.{offset_zeros}
use Rattle.lists.proofs.registers.offset_rank.Goals as goal

pub overflow_sub-result : goal.overflow_sub-result
overflow_sub-result c = omega (arith, offset_zeros c.args.d c.args.o c.requires.2 c.requires.1)

pub returns : goal.returns
returns c = omega (arith, offset_zeros c.args.d c.args.o c.requires.2 c.requires.1)
