-- A gap and the value before give the next value, unless the definition refuses it.
use Rattle.std.proofs.Common.{sym, refl, ◌∙◌}
use Rattle.lists.specs.Lists.{NextValuePost}
use Rattle.lists.proofs.DecodingLaws.{handed_on, step_no_gap, step_refused, step_next}
use Rattle.lists.proofs.values.Sparse.next_value.Goals as goal

pub returns-in_err-gap : goal.returns-in_err-gap
returns-in_err-gap c =
    let a = c.args in
    handed_on (NextValuePost a.self.normal_precision a.self.sparse_precision a.bytes.now a.at a.last) c.from_residual.result c.in_err-gap.field-0.0 c.from_residual.ensures.1
    (step_no_gap _ (rw c.in_err-gap.was at c.read_gap.ensures))

pub returns-then-refused_here : goal.returns-then-refused_here
returns-then-refused_here c = step_refused _ (rw c.in_ok-gap.was at c.read_gap.ensures) refl (sym c.if-refused_here.true ∙ c.refused_here.ensures)

pub returns : goal.returns
returns c = step_next (rw c.in_ok-gap.was at c.read_gap.ensures) refl (sym c.if-refused_here.false ∙ c.refused_here.ensures)
