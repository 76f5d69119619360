-- 17 (`list_17`); nothing waits, and kept is written (`kept_post`); or the merge is (`flushed_post`).
use Rattle.std.proofs.Common.{length, sym, refl, arith, length-take-le}
use Rattle.rollup.proofs.WriteLaws.{list_fit, list_short, list_17, kept_pre, kept_post, flush_pre, index_pre, size_small, flushed_pre, flushed_post}
use Rattle.rollup.proofs.accumulator.Accumulator.write_list.Goals as goal

pub overflow_add-self : goal.overflow_add-self
overflow_add-self c = omega (arith, list_short c.args.self c.args.sparse.now c.args.pending.now c.requires.0 c.requires.1)

pub returns-then-scratch-self : goal.returns-then-scratch-self
returns-then-scratch-self c = list_17 c.args.self c.args.sparse.now c.args.pending.now c.requires.0 c.requires.1 (length c.args.scratch.now) c.args.out.now c.if-scratch-self.true

pub slice_bounds-kept-end : goal.slice_bounds-kept-end
slice_bounds-kept-end c = sym (length-take-le c.args.self.sparse_len c.args.sparse.now (list_fit c.args.self c.args.sparse.now c.args.pending.now c.requires.0 c.requires.1).kept_in)

pub written_len-requires : goal.written_len-requires
written_len-requires c = (list_fit c.args.self c.args.sparse.now c.args.pending.now c.requires.0 c.requires.1).order

pub write_values-requires : goal.write_values-requires
write_values-requires c = kept_pre c.args.self c.args.sparse.now c.args.pending.now c.requires.0 c.requires.1 (length c.args.scratch.now) c.args.out.now c.if-scratch-self.false c.written_len.result c.written_len.ensures

pub returns-then-self-eq0 : goal.returns-then-self-eq0
returns-then-self-eq0 c = kept_post c.args.self c.args.sparse.now c.args.pending.now c.requires.0 c.requires.1 (length c.args.scratch.now) c.args.out.now c.if-scratch-self.false c.if-self-eq0.true _ _ _ c.write_values.ensures

pub encoding-enc-requires : goal.encoding-enc-requires
encoding-enc-requires c = (list_fit c.args.self c.args.sparse.now c.args.pending.now c.requires.0 c.requires.1).pair

pub slice_bounds-flush_pending-end : goal.slice_bounds-flush_pending-end
slice_bounds-flush_pending-end c = (list_fit c.args.self c.args.sparse.now c.args.pending.now c.requires.0 c.requires.1).waiting_in

pub slice_bounds-flush_pending-end-2 : goal.slice_bounds-flush_pending-end-2
slice_bounds-flush_pending-end-2 c = sym (length-take-le c.args.self.pending_len c.args.pending.now (list_fit c.args.self c.args.sparse.now c.args.pending.now c.requires.0 c.requires.1).waiting_in)

pub flush_pending-u-requires : goal.flush_pending-u-requires
flush_pending-u-requires c = flush_pre c.args.self c.args.sparse.now c.args.pending.now c.requires.0 c.requires.1 (length c.args.scratch.now) c.args.out.now c.if-scratch-self.false c.encoding-enc.result c.encoding-enc.ensures c.args.scratch.now refl

pub distinct_indices-requires : goal.distinct_indices-requires
distinct_indices-requires c = index_pre c.args.self c.args.sparse.now c.args.pending.now c.requires.0 c.requires.1 (length c.args.scratch.now) c.args.out.now c.if-scratch-self.false c.encoding-enc.result c.encoding-enc.ensures c.flush_pending-u.result c.flush_pending-u.new.waiting c.flush_pending-u.new.scratch c.flush_pending-u.ensures

pub overflow_cast-distinct_indices : goal.overflow_cast-distinct_indices
overflow_cast-distinct_indices c = omega (arith, size_small c.args.self c.args.sparse.now c.args.pending.now c.requires.0 c.requires.1 (length c.args.scratch.now) c.args.out.now c.if-scratch-self.false c.encoding-enc.result c.encoding-enc.ensures c.flush_pending-u.result c.flush_pending-u.new.waiting c.flush_pending-u.new.scratch c.flush_pending-u.ensures c.distinct_indices.result c.distinct_indices.ensures)

pub write_values-requires-2 : goal.write_values-requires-2
write_values-requires-2 c = flushed_pre c.args.self c.args.sparse.now c.args.pending.now c.requires.0 c.requires.1 (length c.args.scratch.now) c.args.out.now c.if-scratch-self.false c.encoding-enc.result c.encoding-enc.ensures c.flush_pending-u.result c.flush_pending-u.new.waiting c.flush_pending-u.new.scratch c.flush_pending-u.ensures

pub returns : goal.returns
returns c = flushed_post c.args.self c.args.sparse.now c.args.pending.now c.requires.0 c.requires.1 (length c.args.scratch.now) c.args.out.now c.if-scratch-self.false c.encoding-enc.result c.encoding-enc.ensures c.flush_pending-u.result c.flush_pending-u.new.waiting c.flush_pending-u.new.scratch c.flush_pending-u.ensures c.if-self-eq0.false c.distinct_indices.result c.distinct_indices.ensures _ _ _ c.write_values-2.ensures
