-- The values stored so far and those of the rest make up the list (`Going`), and the two values that the loop keeps decide for all of them. The
-- cells past those values are as they were.
use Rattle.std.proofs.Common.{◌≡◌, ◌-◌, ◌≤◌, length, take, drop}
use Rattle.lists.proofs.DecodingLaws.{Going}
use Rattle.lists.proofs.values.Sparse.decode_validated_into.Given as goal

abbrev pub invariant-loop-at : goal.invariant-loop-at
invariant-loop-at l = Going l.self.normal_precision l.self.sparse_precision l.bytes (take l.k l.out) l.at l.last l.plain × (length l.out ≡ length l.initial.out) × (length l.bytes ≤ length l.initial.out) × (drop l.k l.out ≡ drop l.k l.initial.out) × (l.k ≤ l.at)

abbrev pub decreases-loop-at : goal.decreases-loop-at
decreases-loop-at l = length l.bytes - l.at
