use Rattle.std.proofs.Common.{sym, refl, ◌∙◌}
use Rattle.lists.proofs.CheckingLaws.{valid_turn, valid_end}
use Rattle.lists.proofs.values.Sparse.all_valid.Goals as goal

pub loop-v-preserved : goal.loop-v-preserved
loop-v-preserved c = c.loop-v.invariant ∙ valid_turn _ _ c.args.l.now c.loop-v.v-index c.loop-v.all _ c.is_valid-all.result c.loop-v-test.true c.is_valid-all.ensures refl

pub returns : goal.returns
returns c = sym (c.loop-v.invariant ∙ valid_end _ _ c.args.l.now c.loop-v.v-index c.loop-v.all c.loop-v-test.false)
