-- The lengths of the tag and of the number, at most 10 each, add up to the pair's.
use native.Mathlib.Omega.{arith}
use Rattle.wire.proofs.EncodingLaws.{two_length, pair_is, pair_le}
use Rattle.wire.proofs.encoding.pair_len.Goals as goal

pub overflow_add-result : goal.overflow_add-result
overflow_add-result c = omega (arith, c.varint_len_64.ensures, c.varint_len_64-2.ensures, two_length (pair_is c.from.ensures c.args.v), pair_le c.args.tag c.args.v)

pub returns : goal.returns
returns c = omega (arith, c.varint_len_64.ensures, c.varint_len_64-2.ensures, two_length (pair_is c.from.ensures c.args.v))
