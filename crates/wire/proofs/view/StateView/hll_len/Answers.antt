-- The start and field 6 make up the message; the sum fits by what is required of the two data fields.
use native.Mathlib.Omega.{arith}
use mathlib.Core.List.{List}
use mathlib.Core.Option.{Option}
use mathlib.Core.Path.{◌≡◌, ap, ap₂, ◌∙◌, sym}
use Prim.Native.Nat.{ℕ, ◌+◌}
use lib.ListN.{length}
use Rattle.wire.specs.View.{viewed}
use Rattle.wire.specs.Encoding.{bytes_field}
use Rattle.wire.proofs.EncodingLaws.{hll_numbers_le, hll_start_length, hll_length, field_le}
use Rattle.wire.proofs.view.StateView.hll_len.Goals as goal

pub overflow_add-result : goal.overflow_add-result
overflow_add-result c =
    let field : c.field_len.result ≡ length (bytes_field 6 (viewed c.args.self).hll.sparse_data) = c.field_len.ensures ∙ ap (λ (o : Option (List ℕ)). length (bytes_field 6 o)) c.sparse_data_field.ensures in
    let h = (viewed c.args.self).hll in
    omega (arith, c.hll_start_len.ensures, field, hll_start_length h, hll_numbers_le h, field_le 5 h.«data», field_le 6 h.sparse_data)

pub returns : goal.returns
returns c =
    let field : c.field_len.result ≡ length (bytes_field 6 (viewed c.args.self).hll.sparse_data) = c.field_len.ensures ∙ ap (λ (o : Option (List ℕ)). length (bytes_field 6 o)) c.sparse_data_field.ensures in
    ap₂ (λ (x y : ℕ). x + y) c.hll_start_len.ensures field ∙ sym (hll_length (viewed c.args.self).hll)
