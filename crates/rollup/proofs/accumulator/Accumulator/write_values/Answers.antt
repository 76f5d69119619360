-- 22 where the list is at the limit (`values_22`), 23 where head and list do not fit (`values_23`); else the head, and the list in the rest of the
-- output (`values_written`).
use Rattle.std.proofs.Common.{ap, arith}
use Rattle.wire.specs.declared.state.Fields.{Fields}
use Rattle.rollup.specs.WritingPaths.{with_sparse_data}
use Rattle.rollup.proofs.WriteLaws.{values_22, values_small, head_small, values_23, values_written}
use Rattle.rollup.proofs.accumulator.Accumulator.write_values.Goals as goal

pub returns-then-size_limit-bytes : goal.returns-then-size_limit-bytes
returns-then-size_limit-bytes c = let a = c.args in
    values_22 a.self a.size a.list.now a.bytes c.requires c.size_limit.result c.size_limit.ensures.0 a.out.now c.if-size_limit-bytes.true

pub overflow_add-total : goal.overflow_add-total
overflow_add-total c = let a = c.args in
    omega (arith, c.head_len.ensures, values_small a.self a.size a.list.now a.bytes c.requires c.size_limit.result c.size_limit.ensures.0 c.if-size_limit-bytes.false, head_small a.self a.size a.list.now a.bytes c.requires c.size_limit.result c.size_limit.ensures.0 c.if-size_limit-bytes.false (with_sparse_data c.fields-fields.result a.bytes) (ap (λ (f : Fields). with_sparse_data f a.bytes) c.fields-fields.ensures))

pub returns-then-out-total : goal.returns-then-out-total
returns-then-out-total c = let a = c.args in
    values_23 a.self a.size a.list.now a.bytes c.requires c.size_limit.result c.size_limit.ensures.0 c.if-size_limit-bytes.false (with_sparse_data c.fields-fields.result a.bytes) (ap (λ (f : Fields). with_sparse_data f a.bytes) c.fields-fields.ensures) a.out.now c.head_len.result c.head_len.ensures c.if-out-total.true

pub returns : goal.returns
returns c = let a = c.args in
    values_written a.self a.size a.list.now a.bytes c.requires c.size_limit.result c.size_limit.ensures.0 c.if-size_limit-bytes.false (with_sparse_data c.fields-fields.result a.bytes) (ap (λ (f : Fields). with_sparse_data f a.bytes) c.fields-fields.ensures) a.out.now c.head_len.result c.head_len.ensures c.if-out-total.false c.encode_head-at.result c.encode_head-at.new.out c.encode_head-at.ensures c.encode_sparse.result c.encode_sparse.new.out c.encode_sparse.ensures
