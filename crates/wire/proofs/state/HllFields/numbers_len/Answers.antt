-- The three lengths add up, and each is at most 20, so that no sum overflows.
use native.Mathlib.Omega.{arith}
use mathlib.Core.List.{[]}
use Rattle.wire.specs.State.{hll_of}
use Rattle.wire.proofs.EncodingLaws.{int32_le, hll_numbers_length}
use Rattle.wire.proofs.state.HllFields.numbers_len.Goals as goal

pub overflow_add-result : goal.overflow_add-result
overflow_add-result c =
    let h = c.args.self in
    omega (arith, c.int32_len.ensures, c.int32_len-2.ensures, int32_le 0 2 h.sparse_size, int32_le 0 3 h.precision)

pub overflow_add-result-2 : goal.overflow_add-result-2
overflow_add-result-2 c =
    let h = c.args.self in
    omega (arith, c.int32_len.ensures, c.int32_len-2.ensures, c.int32_len-3.ensures, int32_le 0 2 h.sparse_size, int32_le 0 3 h.precision, int32_le 0 4 h.sparse_precision)

pub returns : goal.returns
returns c = omega (arith, c.int32_len.ensures, c.int32_len-2.ensures, c.int32_len-3.ensures, hll_numbers_length (hll_of [] c.args.self))
