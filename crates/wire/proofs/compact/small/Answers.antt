-- A byte below 128 is a whole varint.
use Rattle.std.proofs.Common.{rules, refl}
use Rattle.wire.proofs.VarintLaws.{one_byte}
use Rattle.wire.proofs.compact.small.Goals as goal

pub returns-in-Some : goal.returns-in-Some
returns-in-Some c = (one_byte (search rules) (search rules) (search rules), refl, search rules)
