-- The row is loaded as registers, or the values are copied.
use Rattle.std.proofs.Common.{sym, ap, ◌∙◌}
use borrow.Author.Tests.{eqb-true, eqb-false}
use Rattle.rollup.specs.declared.accumulator.Accumulator.{Accumulator}
use Rattle.rollup.specs.declared.accumulator.Form.TheVariants.{Sparse, Dense}
use Rattle.rollup.specs.Accumulator.{head_with}
use Rattle.rollup.proofs.StartLaws.{start_load, start_list_lem, start_dense_lem}
use Rattle.rollup.proofs.starting.start.Goals as goal

pub load_registers-requires : goal.load_registers-requires
load_registers-requires c = start_load c.requires (eqb-false _ _ (sym c.is_empty.ensures ∙ c.if-not-is_empty.true))

pub returns-then-not-is_empty-clause-shows : goal.returns-then-not-is_empty-clause-shows
returns-then-not-is_empty-clause-shows c =
    let x = c.args.x in
    start_dense_lem c.requires c.args.memory.now.pending.now (eqb-false _ _ (sym c.is_empty.ensures ∙ c.if-not-is_empty.true)) c.load_registers.ensures
    (ap
    (λ (f : Accumulator). head_with Dense x.mask x.value_type x.num_values x.precision x.sparse_precision x.sparse_size f.sparse_len f.sparse_bytes f.pending_len)
    c.new.ensures)

pub returns-clause-shows : goal.returns-clause-shows
returns-clause-shows c =
    let x = c.args.x in
    start_list_lem c.requires c.args.memory.now.pending.now (eqb-true _ _ (sym c.is_empty.ensures ∙ c.if-not-is_empty.false)) c.append.ensures.front
    (ap (λ (f : Accumulator). head_with Sparse x.mask x.value_type x.num_values x.precision x.sparse_precision x.sparse_size c.args.k x.list_bytes f.pending_len) c.new.ensures)
