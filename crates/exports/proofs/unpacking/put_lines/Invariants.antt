-- The lines of the records so far stand at the front.
use Rattle.batch.specs.Records.{left}
use mathlib.Core.Path.{◌≡◌}
use Rattle.exports.proofs.UnpackLaws.{Lining}
use Rattle.exports.proofs.unpacking.put_lines.Given as goal

abbrev pub invariant-loop-record : goal.invariant-loop-record
invariant-loop-record l = Lining l.batch (left l.record-iterator) l.initial.text l.at l.text × (l.record-iterator.batch.now ≡ l.batch)
