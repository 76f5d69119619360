-- The tag picks the same arm of the code and of the definition, and what is read there is what that arm reads.
use mathlib.Core.Path.{refl}
use Rattle.wire.proofs.StateLaws.{hll_number, hll_number_failed, hll_bytes, hll_bytes_failed, hll_other, hll_other_failed, sparse_size_is, precision_is, sparse_precision_is, data_is, sparse_data_is}
use Rattle.wire.proofs.state.hll_field.Goals as goal

pub returns-in_err-h-in-16 : goal.returns-in_err-h-in-16
returns-in_err-h-in-16 c = hll_number_failed c.in_ok-tag.ensures (sparse_size_is _ c.in-16.is) c.in_err-h-in-16.ensures _ c.from_residual-in_err-h-in-16.ensures.1

pub returns-in_ok-h-in-16 : goal.returns-in_ok-h-in-16
returns-in_ok-h-in-16 c =
    hll_number c.in_ok-tag.ensures (sparse_size_is _ c.in-16.is) c.in_ok-h-in-16.ensures (λ s. refl)
    (λ s i. record { «data» = i.«data»; sparse_data = i.sparse_data })

pub returns-in_err-h-in-24 : goal.returns-in_err-h-in-24
returns-in_err-h-in-24 c = hll_number_failed c.in_ok-tag.ensures (precision_is _ c.in-24.is) c.in_err-h-in-24.ensures _ c.from_residual-in_err-h-in-24.ensures.1

pub returns-in_ok-h-in-24 : goal.returns-in_ok-h-in-24
returns-in_ok-h-in-24 c =
    hll_number c.in_ok-tag.ensures (precision_is _ c.in-24.is) c.in_ok-h-in-24.ensures (λ s. refl)
    (λ s i. record { «data» = i.«data»; sparse_data = i.sparse_data })

pub returns-in_err-h-in-32 : goal.returns-in_err-h-in-32
returns-in_err-h-in-32 c = hll_number_failed c.in_ok-tag.ensures (sparse_precision_is _ c.in-32.is) c.in_err-h-in-32.ensures _ c.from_residual-in_err-h-in-32.ensures.1

pub returns-in_ok-h-in-32 : goal.returns-in_ok-h-in-32
returns-in_ok-h-in-32 c =
    hll_number c.in_ok-tag.ensures (sparse_precision_is _ c.in-32.is) c.in_ok-h-in-32.ensures (λ s. refl)
    (λ s i. record { «data» = i.«data»; sparse_data = i.sparse_data })

pub returns-in_err-part-in-42 : goal.returns-in_err-part-in-42
returns-in_err-part-in-42 c = hll_bytes_failed c.in_ok-tag.ensures (data_is _ c.in-42.is) c.in_err-part-in-42.ensures _ c.from_residual-in_err-part-in-42.ensures.1

pub returns-in_ok-part-in-42 : goal.returns-in_ok-part-in-42
returns-in_ok-part-in-42 c = hll_bytes c.in_ok-tag.ensures (data_is _ c.in-42.is) c.in_ok-part-in-42.ensures (λ s. rw c.moved-h.ensures)
    (λ s k i. record { «data» = record { inside = rw c.moved-h.ensures k; absent = tt }; sparse_data = i.sparse_data })

pub returns-in_err-part-in-50 : goal.returns-in_err-part-in-50
returns-in_err-part-in-50 c = hll_bytes_failed c.in_ok-tag.ensures (sparse_data_is _ c.in-50.is) c.in_err-part-in-50.ensures _ c.from_residual-in_err-part-in-50.ensures.1

pub returns-in_ok-part-in-50 : goal.returns-in_ok-part-in-50
returns-in_ok-part-in-50 c = hll_bytes c.in_ok-tag.ensures (sparse_data_is _ c.in-50.is) c.in_ok-part-in-50.ensures (λ s. rw c.moved-h-in-50.ensures)
    (λ s k i. record { «data» = i.«data»; sparse_data = record { inside = rw c.moved-h-in-50.ensures k; absent = tt } })

pub returns-in_err-next-in_default : goal.returns-in_err-next-in_default
returns-in_err-next-in_default c =
    let r = c.in_default.in_default-own.rest in
    hll_other_failed c.in_ok-tag.ensures r.0.0.0.0.1 r.0.0.0.1 r.0.0.1 r.0.1 r.1 c.in_err-next-in_default.ensures _ c.from_residual-in_err-next-in_default.ensures.1

pub returns-in_ok-next-in_default : goal.returns-in_ok-next-in_default
returns-in_ok-next-in_default c =
    let r = c.in_default.in_default-own.rest in
    hll_other c.in_ok-tag.ensures r.0.0.0.0.1 r.0.0.0.1 r.0.0.1 r.0.1 r.1 c.in_ok-next-in_default.ensures
