-- What both parts share is what was met twice and what the rests share; at the end a rest is empty.
use Rattle.std.proofs.Common.{◌+◌, ◌-◌, length}
use Rattle.lists.proofs.IndexLaws.{Walking}
use Rattle.lists.proofs.values.Sparse.distinct_indices.Given as goal

abbrev pub invariant-loop-i : goal.invariant-loop-i
invariant-loop-i l = Walking l.self.normal_precision l.self.sparse_precision l.l l.m l.i l.j l.twice

abbrev pub decreases-loop-i : goal.decreases-loop-i
decreases-loop-i l = l.m + length l.l - (l.i + l.j)
