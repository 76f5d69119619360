-- Question 24, and then the whole chain.
use Rattle.std.proofs.Common.{sym, refl, ◌∙◌}
use Rattle.batch.proofs.ChainLaws.{chain_is, left_first}
use Rattle.batch.proofs.chain.Records.new.Goals as goal

pub returns-then-not-is_batch : goal.returns-then-not-is_batch
returns-then-not-is_batch c = chain_is c.args.batch.now (sym c.is_batch.ensures ∙ c.if-not-is_batch.true)

pub returns : goal.returns
returns c = (left_first c.args.batch.now c.word_at.result (sym c.is_batch.ensures ∙ c.if-not-is_batch.false) c.word_at.ensures, refl)
