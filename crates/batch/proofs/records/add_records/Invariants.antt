-- The loop over the records: each turn adds one call to the run.
use Rattle.std.proofs.Common.{◌≡◌, length}
use Rattle.rollup.specs.Accumulator.{kept_of}
use Rattle.rollup.specs.Lent.{mem_of, SameLent}
use Rattle.rollup.specs.Stages.{KnownDistinct}
use Rattle.batch.specs.Records.{left}
use Rattle.batch.proofs.RollLaws.{Going}
use Rattle.batch.proofs.records.add_records.Given as goal

abbrev pub invariant-loop-record : goal.invariant-loop-record
invariant-loop-record l = record {
  going : Going l.batch (mem_of l.initial.memory) (length l.initial.memory.scratch.now) (left l.record-iterator) l.records l.fitted.head (mem_of l.memory) l.initial.answers l.answers;
  batch : l.record-iterator.batch.now ≡ l.batch;
  same : SameLent l.initial.memory l.memory;
  known : KnownDistinct l.fitted.distinct l.fitted.head.precision l.fitted.head.sparse_precision (kept_of l.fitted.head (mem_of l.memory));
}
