-- A field number above 0 is a tag of 8 or more, so the two tests are the definition's two questions of the varint that was read.
use Rattle.std.proofs.Common.{rules}
use Rattle.wire.proofs.ReadingLaws.{tag_failed, tag_high, tag_low, tag_good}
use Rattle.wire.proofs.fields.read_tag.Goals.{then-v-lt8-via-then-v-lt8, then-v-lt8-via-else-v-lt8+then-v-ge4294967296}
use Rattle.wire.proofs.fields.read_tag.Goals as goal

pub returns-in_err-v : goal.returns-in_err-v
returns-in_err-v c = tag_failed c.in_err-v.ensures _ c.from_residual.ensures.1

pub returns-then-v-lt8 : goal.returns-then-v-lt8
returns-then-v-lt8 c =
    elim c.then-v-lt8.branch [ then-v-lt8-via-then-v-lt8 w ↦ tag_low c.in_ok-v.ensures w.if-v-lt8.true | then-v-lt8-via-else-v-lt8+then-v-ge4294967296 w ↦ tag_high c.in_ok-v.ensures w.if-v-ge4294967296.true ]

pub returns : goal.returns
returns c = tag_good c.in_ok-v.ensures (search rules) (search rules)
