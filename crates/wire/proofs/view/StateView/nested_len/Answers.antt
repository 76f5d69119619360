-- The start and the prefix make up the nested message before its sparse data.
use native.Mathlib.Omega.{arith}
use Rattle.wire.specs.View.{viewed}
use Rattle.wire.specs.State.{State}
use Rattle.wire.proofs.EncodingLaws.{hll_head_length}
use Rattle.wire.proofs.view.StateView.nested_len.Goals as goal

pub overflow_add-result : goal.overflow_add-result
overflow_add-result c =
    let state : State = viewed c.args.self in
    omega (arith, c.hll_start_len.ensures, c.pair_len.ensures, hll_head_length state.hll c.args.self.fields.hll.sparse_data.len, c.requires)

pub overflow_add-result-2 : goal.overflow_add-result-2
overflow_add-result-2 c =
    let state : State = viewed c.args.self in
    omega (arith, c.hll_start_len.ensures, c.pair_len.ensures, hll_head_length state.hll c.args.self.fields.hll.sparse_data.len, c.requires)

pub returns : goal.returns
returns c =
    let state : State = viewed c.args.self in
    omega (arith, c.hll_start_len.ensures, c.pair_len.ensures, hll_head_length state.hll c.args.self.fields.hll.sparse_data.len)
