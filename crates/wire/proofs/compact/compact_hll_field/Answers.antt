-- Two bytes below 128 are a tag and a value or a length as the general reader finds them, and the tag decides as it does there.
use mathlib.Core.Path.{refl}
use native.Mathlib.Omega.{arith}
use Rattle.wire.proofs.StateLaws.{hll_number, hll_bytes, sparse_size_is, precision_is, sparse_precision_is, data_is, sparse_data_is}
use Rattle.wire.proofs.CompactLaws.{small_value, small_tag, small_number, small_bytes}
use Rattle.wire.proofs.compact.compact_hll_field.Goals as goal

pub returns-in-16 : goal.returns-in-16
returns-in-16 c =
    hll_number (small_tag (small_value c.in_ok-tag.ensures) (rw c.in-16.is (omega arith))) (sparse_size_is _ c.in-16.is) (small_number (small_value c.in_ok-v.ensures)) (λ s. refl)
    (λ s i. record { «data» = i.«data»; sparse_data = i.sparse_data })

pub returns-in-24 : goal.returns-in-24
returns-in-24 c =
    hll_number (small_tag (small_value c.in_ok-tag.ensures) (rw c.in-24.is (omega arith))) (precision_is _ c.in-24.is) (small_number (small_value c.in_ok-v.ensures)) (λ s. refl)
    (λ s i. record { «data» = i.«data»; sparse_data = i.sparse_data })

pub returns-in-32 : goal.returns-in-32
returns-in-32 c =
    hll_number (small_tag (small_value c.in_ok-tag.ensures) (rw c.in-32.is (omega arith))) (sparse_precision_is _ c.in-32.is) (small_number (small_value c.in_ok-v.ensures)) (λ s. refl)
    (λ s i. record { «data» = i.«data»; sparse_data = i.sparse_data })

pub returns-in_ok-part-in-42 : goal.returns-in_ok-part-in-42
returns-in_ok-part-in-42 c = hll_bytes (small_tag (small_value c.in_ok-tag.ensures) (rw c.in-42.is (omega arith))) (data_is _ c.in-42.is)
    (small_bytes (small_value c.in_ok-v.ensures) c.from.ensures _ c.take.ensures c.in_ok-part-in-42.ensures.value) (λ s. rw c.moved-h.ensures)
    (λ s k i. record { «data» = record { inside = rw c.moved-h.ensures k; absent = tt }; sparse_data = i.sparse_data })

pub returns-in_ok-part-in-50 : goal.returns-in_ok-part-in-50
returns-in_ok-part-in-50 c = hll_bytes (small_tag (small_value c.in_ok-tag.ensures) (rw c.in-50.is (omega arith))) (sparse_data_is _ c.in-50.is)
    (small_bytes (small_value c.in_ok-v.ensures) c.from-in-50.ensures _ c.take-in-50.ensures c.in_ok-part-in-50.ensures.value) (λ s. rw c.moved-h-in-50.ensures)
    (λ s k i. record { «data» = i.«data»; sparse_data = record { inside = rw c.moved-h-in-50.ensures k; absent = tt } })
