-- What is left from the position on has the length less the position, so the test is the definition's: are there n bytes?
use Rattle.std.proofs.Common.{rules}
use Rattle.wire.proofs.ReadingLaws.{take_short, take_whole}
use Rattle.wire.proofs.fields.take.Goals as goal

pub returns-then-s-start : goal.returns-then-s-start
returns-then-s-start c = take_short c.requires (search rules)

pub returns : goal.returns
returns c = take_whole c.requires (search rules)
