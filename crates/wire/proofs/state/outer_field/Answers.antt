-- The tag picks the same arm of the code and of the definition, and what is read there is what that arm reads.
use mathlib.Core.Path.{refl}
use Rattle.wire.proofs.StateLaws.{outer_number, outer_number_failed, outer_count, outer_count_failed, nested_cut, nested_failed, nested_read, outer_other, outer_other_failed, aggregator_type_is, encoding_version_is, value_type_is}
use Rattle.wire.proofs.state.outer_field.Goals as goal

pub returns-in_err-f-in-8 : goal.returns-in_err-f-in-8
returns-in_err-f-in-8 c = outer_number_failed c.in_ok-tag.ensures (aggregator_type_is _ c.in-8.is) c.in_err-f-in-8.ensures _ c.from_residual-in_err-f-in-8.ensures.1

pub returns-in_ok-f-in-8 : goal.returns-in_ok-f-in-8
returns-in_ok-f-in-8 c = outer_number c.in_ok-tag.ensures (aggregator_type_is _ c.in-8.is) c.in_ok-f-in-8.ensures refl (λ i. i)

pub returns-in_err-f-in-24 : goal.returns-in_err-f-in-24
returns-in_err-f-in-24 c = outer_number_failed c.in_ok-tag.ensures (encoding_version_is _ c.in-24.is) c.in_err-f-in-24.ensures _ c.from_residual-in_err-f-in-24.ensures.1

pub returns-in_ok-f-in-24 : goal.returns-in_ok-f-in-24
returns-in_ok-f-in-24 c = outer_number c.in_ok-tag.ensures (encoding_version_is _ c.in-24.is) c.in_ok-f-in-24.ensures refl (λ i. i)

pub returns-in_err-f-in-32 : goal.returns-in_err-f-in-32
returns-in_err-f-in-32 c = outer_number_failed c.in_ok-tag.ensures (value_type_is _ c.in-32.is) c.in_err-f-in-32.ensures _ c.from_residual-in_err-f-in-32.ensures.1

pub returns-in_ok-f-in-32 : goal.returns-in_ok-f-in-32
returns-in_ok-f-in-32 c = outer_number c.in_ok-tag.ensures (value_type_is _ c.in-32.is) c.in_ok-f-in-32.ensures refl (λ i. i)

pub returns-in_err-f-in-16 : goal.returns-in_err-f-in-16
returns-in_err-f-in-16 c = outer_count_failed c.in_ok-tag.ensures c.in-16.is c.in_err-f-in-16.ensures _ c.from_residual-in_err-f-in-16.ensures.1

pub returns-in_ok-f-in-16 : goal.returns-in_ok-f-in-16
returns-in_ok-f-in-16 c = outer_count c.in_ok-tag.ensures c.in-16.is c.in_ok-f-in-16.ensures

pub returns-in_err-part-in-898 : goal.returns-in_err-part-in-898
returns-in_err-part-in-898 c = nested_cut c.in_ok-tag.ensures c.in-898.is c.in_err-part-in-898.ensures _ c.from_residual-in_err-part-in-898.ensures.1

pub returns-in_err-f-in-898 : goal.returns-in_err-f-in-898
returns-in_err-f-in-898 c = nested_failed c.in_ok-tag.ensures c.in-898.is c.in_ok-part-in-898.ensures c.in_err-f-in-898.ensures _ c.from_residual-in_err-f-in-898.ensures.1

pub returns-in_ok-f-in-898 : goal.returns-in_ok-f-in-898
returns-in_ok-f-in-898 c = nested_read c.in_ok-tag.ensures c.in-898.is c.in_ok-part-in-898.ensures c.in_ok-f-in-898.ensures

pub returns-in_err-next-in_default : goal.returns-in_err-next-in_default
returns-in_err-next-in_default c =
    let r = c.in_default.in_default-own.rest in
    outer_other_failed c.in_ok-tag.ensures r.0.0.0.0.1 r.0.0.0.1 r.0.0.1 r.0.1 r.1 c.in_err-next-in_default.ensures _ c.from_residual-in_err-next-in_default.ensures.1

pub returns-in_ok-next-in_default : goal.returns-in_ok-next-in_default
returns-in_ok-next-in_default c =
    let r = c.in_default.in_default-own.rest in
    outer_other c.in_ok-tag.ensures r.0.0.0.0.1 r.0.0.0.1 r.0.0.1 r.0.1 r.1 c.in_ok-next-in_default.ensures
