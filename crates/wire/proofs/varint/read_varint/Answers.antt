-- A byte below 128 is the whole varint, and `long_varint` reads every other.
use Rattle.std.proofs.Common.{rules}
use Rattle.wire.proofs.VarintLaws.{one_byte}
use Rattle.wire.proofs.varint.read_varint.Goals as goal

pub returns-in-Some : goal.returns-in-Some
returns-in-Some c = one_byte (search rules) (search rules) (search rules)
