-- What was found so far and whether the rest is valid make the whole.
use Rattle.std.proofs.Common.{◌≡◌, ◌&&◌, drop}
use Rattle.lists.specs.Lists.{all_valid}
use Rattle.lists.proofs.values.Sparse.all_valid.Given as goal

abbrev pub invariant-loop-v : goal.invariant-loop-v
invariant-loop-v l = all_valid l.self.normal_precision l.self.sparse_precision l.l ≡ (l.all && all_valid l.self.normal_precision l.self.sparse_precision (drop l.v-index l.l))
