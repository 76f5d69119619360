use Rattle.std.proofs.Common.{rules}
use native.Mathlib.Omega.{arith}
use Rattle.wire.proofs.VarintLaws.{reading_cut, reading_long, reading_last, reading_more}
use Rattle.wire.proofs.varint.long_varint.Goals as goal

pub returns-in_default : goal.returns-in_default
returns-in_default c = reading_cut c.loop-n.invariant.read (search rules) (search rules)

pub returns-then-b-lt128 : goal.returns-then-b-lt128
returns-then-b-lt128 c = reading_last c.loop-n.invariant.read (search rules) (search rules) (search rules) (search rules)

pub loop-n-preserved : goal.loop-n-preserved
loop-n-preserved c = record { read = reading_more c.loop-n.invariant.read (search rules) (search rules) (search rules) (omega arith) (search rules); inside = search rules }

pub returns : goal.returns
returns c = reading_long c.loop-n.invariant.read (search rules)
