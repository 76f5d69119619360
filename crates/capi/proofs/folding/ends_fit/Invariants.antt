-- What was found so far, and whether the rest fits from the last end on, make the whole.
use Rattle.std.proofs.Common.{◌≡◌, ◌&&◌, drop}
use Rattle.capi.specs.Folds.{ends_fit}
use Rattle.capi.proofs.folding.ends_fit.Given as goal

abbrev pub invariant-loop-end : goal.invariant-loop-end
invariant-loop-end l = ends_fit l.size 0 l.ends ≡ (l.all && ends_fit l.size l.start (drop l.end-index l.ends))
