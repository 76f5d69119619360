-- What was found so far and whether the values that are left ascend make the whole.
use Rattle.std.proofs.Common.{◌≡◌, ◌&&◌}
use Rattle.std.specs.Slice.Iter.{windows_rest, windows_size}
use Rattle.lists.specs.Sorting.{ascends}
use Rattle.lists.proofs.checking.is_ascending.Given as goal

abbrev pub invariant-loop-pair : goal.invariant-loop-pair
invariant-loop-pair l = (windows_size l.pair-iterator ≡ 2) × (ascends l.l ≡ (l.all && ascends (windows_rest l.pair-iterator)))
