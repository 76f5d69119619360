-- A one shifted to the larger of s and p + 6 is the mark, which is below 2^31.
use Rattle.lists.proofs.ValueLaws.{code_mark}
use Rattle.lists.proofs.values.Sparse.new.Goals as goal

pub invariant_of-result-clause-flag : goal.invariant_of-result-clause-flag
invariant_of-result-clause-flag c = code_mark c.args.normal_precision c.args.sparse_precision c.max.result c.requires c.max.ensures
