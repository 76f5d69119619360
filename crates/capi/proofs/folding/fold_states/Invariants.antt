-- The loop over the states: each turn adds one call to those before it.
use Rattle.std.proofs.Common.{length}
use Rattle.rollup.specs.Accumulator.{kept_of}
use Rattle.rollup.specs.Lent.{mem_of, SameLent}
use Rattle.rollup.specs.Stages.{KnownDistinct}
use Rattle.capi.proofs.FoldLaws.{Folding}
use Rattle.capi.proofs.folding.fold_states.Given as goal

abbrev pub invariant-loop-i : goal.invariant-loop-i
invariant-loop-i l = record {
  folding : Folding l.initial.fitted.head (mem_of l.initial.memory) (length l.initial.memory.scratch.now) l.bytes l.ends l.initial.answers l.start l.i l.fitted.head (mem_of l.memory) l.answers;
  same : SameLent l.initial.memory l.memory;
  known : KnownDistinct l.fitted.distinct l.fitted.head.precision l.fitted.head.sparse_precision (kept_of l.fitted.head (mem_of l.memory));
}
