-- The definition has the same two cases, and a valid value's rank is at most `largest_rank p`.
use Rattle.lists.proofs.ValueLaws.{rank_plain_post, rank_marked_post}
use Rattle.std.proofs.Common.{sym, refl, ◌∙◌}
use Rattle.lists.proofs.values.Sparse.decode_normal_rho_w.Goals as goal

pub returns-then-is_rho_encoded : goal.returns-then-is_rho_encoded
returns-then-is_rho_encoded c = rank_marked_post c.args.v _ c.args.self.pair c.requires (sym c.is_rho_encoded.ensures ∙ c.if-is_rho_encoded.true) refl

pub returns-else-is_rho_encoded : goal.returns-else-is_rho_encoded
returns-else-is_rho_encoded c = rank_plain_post c.args.v c.compute_rho_w.result c.args.self.pair c.requires (sym c.is_rho_encoded.ensures ∙ c.if-is_rho_encoded.false) c.compute_rho_w.ensures
