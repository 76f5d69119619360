use Rattle.std.proofs.Common.{get_or, refl, inl, inr, ◌∙◌}
use Rattle.lists.proofs.ValueLaws.{truth}
use Rattle.lists.proofs.MergeLaws.{valid_at}
use Rattle.lists.proofs.IndexLaws.{walk_start, walk_on, walk_out}
use Rattle.lists.proofs.values.Sparse.distinct_indices.Goals as goal
use Rattle.lists.proofs.values.Sparse.distinct_indices.Goals.{else-loop-i-test, then-loop-i-test+else-j-l}

pub loop-i-init : goal.loop-i-init
loop-i-init c =
    let a = c.args in
    (walk_start a.self a.l.now a.self.rho_encoded_flag c.split_point-m.result c.requires a.self.flag c.split_point-m.ensures)

pub decode_sparse_index-y-requires : goal.decode_sparse_index-y-requires
decode_sparse_index-y-requires c =
    let a = c.args in
    valid_at a.self.normal_precision a.self.sparse_precision a.l.now c.loop-i.j c.loop-i.invariant.allowed c.if-j-l.true

pub loop-i-preserved : goal.loop-i-preserved
loop-i-preserved c =
    let a = c.args in
    (walk_on a.self.normal_precision a.self.sparse_precision a.l.now c.split_point-m.result c.loop-i.i c.loop-i.j c.loop-i.twice c.loop-i.invariant (get_or a.l.now c.loop-i.i 0) c.decode_sparse_index-y.result c.from-twice.result c.from-i.result c.from-j.result c.loop-i-test.true c.if-j-l.true refl c.decode_sparse_index-y.ensures (c.from-twice.ensures ∙ truth _) (c.from-i.ensures ∙ truth _) (c.from-j.ensures ∙ truth _))

pub returns : goal.returns
returns c =
    let a = c.args in
    walk_out a.self.normal_precision a.self.sparse_precision a.l.now c.split_point-m.result c.loop-i.i c.loop-i.j c.loop-i.twice c.loop-i.invariant (elim c.loop-i-test.branch [ else-loop-i-test w ↦ inl w.loop-i-test.false | then-loop-i-test+else-j-l w ↦ inr w.if-j-l.false ])
