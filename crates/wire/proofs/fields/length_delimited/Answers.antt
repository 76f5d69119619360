-- The bytes of the field are those that `take` finds behind the length. A length that cannot be read is refused by its own number.
use Rattle.wire.proofs.ReadingLaws.{delimited_failed, delimited_taken}
use Rattle.wire.proofs.fields.length_delimited.Goals as goal

pub returns-in_err-n : goal.returns-in_err-n
returns-in_err-n c = delimited_failed c.in_err-n.ensures _ c.from_residual.ensures.1

pub returns : goal.returns
returns c = delimited_taken c.in_ok-n.ensures _ c.take.ensures
