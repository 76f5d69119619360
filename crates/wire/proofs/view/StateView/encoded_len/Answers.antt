-- All but the two data fields has at most 200 bytes, so the sums fit by what is required of these.
use native.Mathlib.Omega.{arith}
use mathlib.Core.List.{List}
use mathlib.Core.Path.{◌≡◌, ap, ◌∙◌}
use Prim.Native.Nat.{ℕ}
use lib.ListN.{length}
use Rattle.wire.specs.View.{viewed}
use Rattle.wire.specs.State.{State}
use Rattle.wire.specs.Encoding.{length_prefix, hll_bytes, outer_numbers}
use Rattle.wire.proofs.EncodingLaws.{encode_length, encode_le, outer_numbers_any}
use Rattle.wire.proofs.view.StateView.encoded_len.Goals as goal

pub overflow_add-result : goal.overflow_add-result
overflow_add-result c =
    let state : State = viewed c.args.self in
    let outer : c.numbers_len.result ≡ length (outer_numbers state) = c.numbers_len.ensures ∙ ap (λ (l : List ℕ). length l) (outer_numbers_any c.args.self.bytes.now c.args.self.fields) in
    let prefix : c.pair_len.result ≡ length (length_prefix 112 (length (hll_bytes state.hll))) = c.pair_len.ensures ∙ ap (λ (n : ℕ). length (length_prefix 112 n)) c.hll_len-nested.ensures in
    omega (arith, outer, prefix, c.hll_len-nested.ensures, encode_length state, encode_le state)

pub overflow_add-result-2 : goal.overflow_add-result-2
overflow_add-result-2 c =
    let state : State = viewed c.args.self in
    let outer : c.numbers_len.result ≡ length (outer_numbers state) = c.numbers_len.ensures ∙ ap (λ (l : List ℕ). length l) (outer_numbers_any c.args.self.bytes.now c.args.self.fields) in
    let prefix : c.pair_len.result ≡ length (length_prefix 112 (length (hll_bytes state.hll))) = c.pair_len.ensures ∙ ap (λ (n : ℕ). length (length_prefix 112 n)) c.hll_len-nested.ensures in
    omega (arith, outer, prefix, c.hll_len-nested.ensures, encode_length state, encode_le state)

pub returns : goal.returns
returns c =
    let state : State = viewed c.args.self in
    let outer : c.numbers_len.result ≡ length (outer_numbers state) = c.numbers_len.ensures ∙ ap (λ (l : List ℕ). length l) (outer_numbers_any c.args.self.bytes.now c.args.self.fields) in
    let prefix : c.pair_len.result ≡ length (length_prefix 112 (length (hll_bytes state.hll))) = c.pair_len.ensures ∙ ap (λ (n : ℕ). length (length_prefix 112 n)) c.hll_len-nested.ensures in
    omega (arith, outer, prefix, c.hll_len-nested.ensures, encode_length state)
