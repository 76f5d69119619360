-- The outer numbers, the prefix of the nested message, and this up to its sparse data. All but the data field has at most 200 bytes.
use native.Mathlib.Omega.{arith}
use mathlib.Core.List.{List, []}
use mathlib.Core.Path.{◌≡◌, ap, ◌∙◌}
use Prim.Native.Nat.{ℕ}
use lib.ListN.{length}
use Rattle.wire.specs.View.{viewed}
use Rattle.wire.specs.State.{State, state_of}
use Rattle.wire.specs.Encoding.{outer_numbers}
use Rattle.wire.proofs.EncodingLaws.{hll_head_le, head_length, prefix_le, outer_numbers_le, outer_numbers_any}
use Rattle.wire.proofs.view.StateView.head_len.Goals as goal

pub nested_len-nested-requires : goal.nested_len-nested-requires
nested_len-nested-requires c =
    let state : State = viewed c.args.self in
    let len : ℕ = c.args.self.fields.hll.sparse_data.len in
    omega (arith, hll_head_le state.hll len, c.requires)

pub overflow_add-outer : goal.overflow_add-outer
overflow_add-outer c =
    let state : State = viewed c.args.self in
    let outer : (r : ℕ) → r ≡ length (outer_numbers (state_of [] c.args.self.fields)) → r ≡ length (outer_numbers state) = λ r. λ e. e ∙ ap (λ (l : List ℕ). length l) (outer_numbers_any c.args.self.bytes.now c.args.self.fields) in
    omega (arith, outer c.numbers_len.result c.numbers_len.ensures, outer_numbers_le state, c.pair_len.ensures, prefix_le 112 c.nested_len-nested.result)

pub overflow_add-result : goal.overflow_add-result
overflow_add-result c =
    let state : State = viewed c.args.self in
    let len : ℕ = c.args.self.fields.hll.sparse_data.len in
    let outer : (r : ℕ) → r ≡ length (outer_numbers (state_of [] c.args.self.fields)) → r ≡ length (outer_numbers state) = λ r. λ e. e ∙ ap (λ (l : List ℕ). length l) (outer_numbers_any c.args.self.bytes.now c.args.self.fields) in
    omega (arith, outer c.numbers_len.result c.numbers_len.ensures, outer_numbers_le state, c.pair_len.ensures, prefix_le 112 c.nested_len-nested.result, c.nested_len-nested.ensures, hll_head_le state.hll len, c.requires)

pub returns : goal.returns
returns c =
    let state : State = viewed c.args.self in
    let len : ℕ = c.args.self.fields.hll.sparse_data.len in
    let outer : (r : ℕ) → r ≡ length (outer_numbers (state_of [] c.args.self.fields)) → r ≡ length (outer_numbers state) = λ r. λ e. e ∙ ap (λ (l : List ℕ). length l) (outer_numbers_any c.args.self.bytes.now c.args.self.fields) in
    omega (arith, outer c.numbers_len.result c.numbers_len.ensures, c.pair_len.ensures, c.nested_len-nested.ensures, head_length state len c.nested_len-nested.result c.nested_len-nested.ensures)
