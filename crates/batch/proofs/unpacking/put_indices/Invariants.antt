-- The indices so far, and what is left of the chain, are the chain's.
use Rattle.batch.specs.Records.{left}
use Rattle.batch.proofs.UnpackingLaws.{Walking}
use Rattle.batch.proofs.unpacking.put_indices.Given as goal

abbrev pub invariant-loop-record : goal.invariant-loop-record
invariant-loop-record l = Walking l.batch l.initial.indices (left l.record-iterator) l.records l.indices
