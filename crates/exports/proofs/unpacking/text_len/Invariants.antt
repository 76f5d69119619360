-- The records so far were counted, and their lines measured.
use Rattle.batch.specs.Records.{left}
use mathlib.Core.Path.{◌≡◌}
use Rattle.exports.proofs.UnpackLaws.{Measuring}
use Rattle.exports.proofs.unpacking.text_len.Given as goal

abbrev pub invariant-loop-record : goal.invariant-loop-record
invariant-loop-record l = Measuring l.batch (left l.record-iterator) l.records l.n × (l.record-iterator.batch.now ≡ l.batch)
