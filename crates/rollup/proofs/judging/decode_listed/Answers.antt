-- No bytes are the list of no values; others have a pair that a list can have, and `decode_validated_into` answers for it.
use Rattle.std.proofs.Common.{sym, ◌∙◌}
use borrow.Author.Tests.{eqb-true}
use Rattle.rollup.specs.Header.{viewed}
use Rattle.rollup.proofs.JudgeLaws.{listed_none}
use Rattle.rollup.proofs.judging.decode_listed.Goals as goal

pub returns-then-is_empty : goal.returns-then-is_empty
returns-then-is_empty c = listed_none (viewed c.args.view) c.sparse_data-list.result.now _ c.sparse_data-list.ensures (eqb-true _ _ (sym c.is_empty.ensures ∙ c.if-is_empty.true))
