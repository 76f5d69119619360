-- Two bytes below 128 are a tag and a value as the general reader finds them, and the tag is that of an outer number.
use mathlib.Core.Path.{refl}
use native.Mathlib.Omega.{arith}
use Rattle.wire.proofs.StateLaws.{outer_number, outer_count, aggregator_type_is, encoding_version_is, value_type_is}
use Rattle.wire.proofs.CompactLaws.{small_value, small_tag, small_number}
use Rattle.wire.proofs.compact.compact_field.Goals as goal

pub returns-in-8 : goal.returns-in-8
returns-in-8 c = outer_number (small_tag (small_value c.in_ok-tag.ensures) (rw c.in-8.is (omega arith))) (aggregator_type_is _ c.in-8.is) (small_number (small_value c.in_ok-v.ensures)) refl (λ i. i)

pub returns-in-24 : goal.returns-in-24
returns-in-24 c = outer_number (small_tag (small_value c.in_ok-tag.ensures) (rw c.in-24.is (omega arith))) (encoding_version_is _ c.in-24.is) (small_number (small_value c.in_ok-v.ensures)) refl (λ i. i)

pub returns-in-32 : goal.returns-in-32
returns-in-32 c = outer_number (small_tag (small_value c.in_ok-tag.ensures) (rw c.in-32.is (omega arith))) (value_type_is _ c.in-32.is) (small_number (small_value c.in_ok-v.ensures)) refl (λ i. i)

pub returns-in-16 : goal.returns-in-16
returns-in-16 c = rw c.from.ensures (outer_count (small_tag (small_value c.in_ok-tag.ensures) (rw c.in-16.is (omega arith))) c.in-16.is c.in_ok-v.ensures.0)
