-- `82 07` is the tag of field 112, the byte behind it is a length that fits, and `compact_hll` answers for the bytes of that length.
use mathlib.Core.Path.{refl}
use Rattle.std.proofs.Common.{rules}
use Rattle.wire.proofs.StateLaws.{nested_read}
use Rattle.wire.proofs.CompactLaws.{small_value, small_bytes, nested_tag}
use Rattle.wire.proofs.compact.compact_nested.Goals as goal

pub returns : goal.returns
returns c =
    nested_read (nested_tag _ c.args.c.at (search rules) c.requires.1 (search rules)) refl
    (small_bytes (small_value c.in_ok-len.ensures) c.from.ensures _ c.take.ensures c.in_ok-part.ensures.value) c.in_ok-hll.ensures
