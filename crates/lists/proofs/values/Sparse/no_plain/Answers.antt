-- The mark is below 2^31.
use Rattle.std.proofs.Common.{arith}
use Rattle.lists.proofs.ValueLaws.{mark_lt}
use Rattle.lists.proofs.values.Sparse.no_plain.Goals as goal

pub overflow_add-result : goal.overflow_add-result
overflow_add-result c = omega (arith, c.args.self.flag, mark_lt c.args.self.normal_precision c.args.self.sparse_precision c.args.self.pair)
