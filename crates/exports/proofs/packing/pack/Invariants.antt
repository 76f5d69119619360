-- The batch of the lines so far, and what the others make of it (`Packs`).
use mathlib.Core.Path.{◌≡◌}
use lib.ListN.{length}
use Rattle.exports.proofs.PackLaws.{Packs}
use Rattle.exports.proofs.packing.pack.Given as goal

abbrev pub invariant-loop-n : goal.invariant-loop-n
invariant-loop-n l = Packs l.text l.initial.out l.out l.p l.n-iterator.iter.rest.now l.n-iterator.count × (length l.spare ≡ length l.initial.spare) × (l.n-iterator.iter.end ≡ 10)
