-- Each return answers the definition's question of that kind of value.
use Rattle.std.proofs.Common.{ltb, le-ltb, sym, ap, ◌∙◌, arith}
use Rattle.lists.proofs.ValueLaws.{plain_is, marked_far, marked_near}
use Rattle.lists.proofs.values.Sparse.is_valid.Goals as goal

pub returns-then-v-marked_end : goal.returns-then-v-marked_end
returns-then-v-marked_end c = let a = c.args in
    c.marked_rank_fits.ensures
    ∙ sym (marked_near a.self.normal_precision a.self.sparse_precision a.v (sym c.is_rho_encoded.ensures ∙ c.if-is_rho_encoded.true) (omega (arith, c.marked_end.ensures, c.if-v-marked_end.true)))

pub returns-else-v-marked_end : goal.returns-else-v-marked_end
returns-else-v-marked_end c = let a = c.args in
    le-ltb a.v c.marked_end.result c.if-v-marked_end.false
    ∙ sym (marked_far a.self.normal_precision a.self.sparse_precision a.v (sym c.is_rho_encoded.ensures ∙ c.if-is_rho_encoded.true) (omega (arith, c.marked_end.ensures, c.if-v-marked_end.false)))

pub returns-else-is_rho_encoded : goal.returns-else-is_rho_encoded
returns-else-is_rho_encoded c = let a = c.args in
    ap (ltb a.v) c.plain_end.ensures
    ∙ sym (plain_is a.self.normal_precision a.self.sparse_precision a.v (sym c.is_rho_encoded.ensures ∙ c.if-is_rho_encoded.false))
