-- The registers that the data bytes hold are those bytes.
use Rattle.std.proofs.Common.{sym, ◌∙◌}
use borrow.Author.Tests.{eqb-true, eqb-false}
use Rattle.rollup.specs.Header.{viewed}
use Rattle.rollup.proofs.JudgeLaws.{data_high, data_holds, registers_none, registers_some}
use Rattle.rollup.proofs.header.registers_in_range.Goals as goal

pub largest_register-requires : goal.largest_register-requires
largest_register-requires c = data_holds (viewed c.args.view) c.requires c.data-d.result.now c.data-d.ensures (eqb-false _ _ (sym c.is_empty.ensures ∙ c.if-is_empty.false))

pub largest_rank-requires : goal.largest_rank-requires
largest_rank-requires c = data_high (viewed c.args.view) c.requires

pub returns-then-is_empty : goal.returns-then-is_empty
returns-then-is_empty c = c.if-is_empty.true ∙ registers_none (viewed c.args.view) c.requires c.data-d.result.now c.data-d.ensures (eqb-true _ _ (sym c.is_empty.ensures ∙ c.if-is_empty.true))

pub returns-else-is_empty : goal.returns-else-is_empty
returns-else-is_empty c = registers_some (viewed c.args.view) c.requires c.data-d.result.now c.data-d.ensures (eqb-false _ _ (sym c.is_empty.ensures ∙ c.if-is_empty.false)) _ _ c.largest_register.ensures c.largest_rank.ensures
