-- The four lengths add up, and each is at most 20, so that no sum overflows.
use native.Mathlib.Omega.{arith}
use mathlib.Core.List.{[]}
use mathlib.Core.Path.{◌≡◌, ap, ◌∙◌}
use Prim.Native.Nat.{ℕ}
use lib.ListN.{length}
use Rattle.wire.specs.State.{state_of}
use Rattle.wire.specs.Encoding.{number_field, sign_extended}
use Rattle.wire.proofs.EncodingLaws.{outer_numbers_length, outer_numbers_le}
use Rattle.wire.proofs.state.Fields.numbers_len.Goals as goal

pub overflow_add-result : goal.overflow_add-result
overflow_add-result c =
    let first : c.pair_len.result ≡ length (number_field 1 (sign_extended c.args.self.aggregator_type)) = c.pair_len.ensures ∙ ap (λ (v : ℕ). length (number_field 1 v)) c.sign_extended.ensures in
    let f = c.args.self in
    omega (arith, first, c.pair_len-2.ensures, outer_numbers_length (state_of [] f), outer_numbers_le (state_of [] f))

pub overflow_add-result-2 : goal.overflow_add-result-2
overflow_add-result-2 c =
    let first : c.pair_len.result ≡ length (number_field 1 (sign_extended c.args.self.aggregator_type)) = c.pair_len.ensures ∙ ap (λ (v : ℕ). length (number_field 1 v)) c.sign_extended.ensures in
    let f = c.args.self in
    omega (arith, first, c.pair_len-2.ensures, c.int32_len.ensures, outer_numbers_length (state_of [] f), outer_numbers_le (state_of [] f))

pub overflow_add-result-3 : goal.overflow_add-result-3
overflow_add-result-3 c =
    let first : c.pair_len.result ≡ length (number_field 1 (sign_extended c.args.self.aggregator_type)) = c.pair_len.ensures ∙ ap (λ (v : ℕ). length (number_field 1 v)) c.sign_extended.ensures in
    let f = c.args.self in
    omega (arith, first, c.pair_len-2.ensures, c.int32_len.ensures, c.int32_len-2.ensures, outer_numbers_length (state_of [] f), outer_numbers_le (state_of [] f))

pub returns : goal.returns
returns c =
    let first : c.pair_len.result ≡ length (number_field 1 (sign_extended c.args.self.aggregator_type)) = c.pair_len.ensures ∙ ap (λ (v : ℕ). length (number_field 1 v)) c.sign_extended.ensures in
    let f = c.args.self in
    omega (arith, first, c.pair_len-2.ensures, c.int32_len.ensures, c.int32_len-2.ensures, outer_numbers_length (state_of [] f))
