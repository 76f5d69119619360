-- A valid marked value is no less than the mark, and the definition has the same two cases.
use Rattle.lists.proofs.ValueLaws.{code_ge, index_plain_post, index_marked_post}
use Rattle.std.proofs.Common.{sym, ◌∙◌}
use Rattle.lists.proofs.values.Sparse.decode_normal_index.Goals as goal

pub overflow_sub-result : goal.overflow_sub-result
overflow_sub-result c = code_ge c.args.v c.args.self.pair c.args.self.flag (sym c.is_rho_encoded.ensures ∙ c.if-is_rho_encoded.true)

pub returns-then-is_rho_encoded : goal.returns-then-is_rho_encoded
returns-then-is_rho_encoded c = index_marked_post c.args.v c.args.self.pair c.args.self.flag (sym c.is_rho_encoded.ensures ∙ c.if-is_rho_encoded.true) c.requires

pub returns-else-is_rho_encoded : goal.returns-else-is_rho_encoded
returns-else-is_rho_encoded c = index_plain_post c.args.v c.args.self.pair c.args.self.flag (sym c.is_rho_encoded.ensures ∙ c.if-is_rho_encoded.false) c.requires
