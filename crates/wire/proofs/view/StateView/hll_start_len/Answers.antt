-- The numbers have at most 60 bytes and the data field at most 20 more than its bytes, which are a part of `bytes`.
use Rattle.wire.specs.View.{viewed}
use Rattle.wire.proofs.EncodingLaws.{hll_numbers_any, hll_numbers_le, hll_start_length, field_le, part_le}
use native.Mathlib.Omega.{arith}
use mathlib.Core.List.{List}
use mathlib.Core.Option.{Option}
use mathlib.Core.Path.{◌≡◌, ap, ap₂, ◌∙◌, sym}
use Prim.Native.Nat.{ℕ, ◌+◌}
use lib.ListN.{length}
use Rattle.wire.specs.Encoding.{bytes_field, hll_numbers}
use Rattle.wire.proofs.view.StateView.hll_start_len.Goals as goal

pub overflow_add-result : goal.overflow_add-result
overflow_add-result c =
    let numbers : c.numbers_len.result ≡ length (hll_numbers (viewed c.args.self).hll) = c.numbers_len.ensures ∙ ap (λ (l : List ℕ). length l) (hll_numbers_any c.args.self.bytes.now c.args.self.fields.hll) in
    let field : c.field_len.result ≡ length (bytes_field 5 (viewed c.args.self).hll.«data») = c.field_len.ensures ∙ ap (λ (o : Option (List ℕ)). length (bytes_field 5 o)) c.data_field.ensures in
    let h = (viewed c.args.self).hll in
    omega (arith, numbers, field, hll_numbers_le h, field_le 5 h.«data», part_le c.args.self.bytes.now c.args.self.fields.hll.data_present c.args.self.fields.hll.«data»)

pub returns : goal.returns
returns c =
    let numbers : c.numbers_len.result ≡ length (hll_numbers (viewed c.args.self).hll) = c.numbers_len.ensures ∙ ap (λ (l : List ℕ). length l) (hll_numbers_any c.args.self.bytes.now c.args.self.fields.hll) in
    let field : c.field_len.result ≡ length (bytes_field 5 (viewed c.args.self).hll.«data») = c.field_len.ensures ∙ ap (λ (o : Option (List ℕ)). length (bytes_field 5 o)) c.data_field.ensures in
    ap₂ (λ (x y : ℕ). x + y) numbers field ∙ sym (hll_start_length (viewed c.args.self).hll)
