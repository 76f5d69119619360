-- A marked value's register and rank are those that its functions give, d bits lower, and a plain value's those that d bits more give.
use Rattle.std.proofs.Common.{◌-◌, ◌/◌, ◌^◌, sym, ◌∙◌}
use Rattle.lists.proofs.RegisterLaws.{first_held, lower_index_lem, set_one, plain_held, set_plain}
use Rattle.lists.proofs.registers.set_register.Goals as goal

pub raise_register-requires : goal.raise_register-requires
raise_register-requires c = first_held (c.args.enc.normal_precision - c.args.d) (c.decode_normal_index-i.result / 2 ^ c.args.d) c.args.registers.now c.requires.room
    (lower_index_lem c.args.enc.normal_precision c.args.d c.decode_normal_index-i.result c.requires.fewer c.decode_normal_index-i.ensures.small)

pub returns-then-is_rho_encoded : goal.returns-then-is_rho_encoded
returns-then-is_rho_encoded c = set_one c.args.enc.normal_precision c.args.enc.sparse_precision c.args.d c.args.v c.decode_normal_index-i.result c.decode_normal_rho_w.result c.downgrade_rho_w-r.result
    c.args.registers.now _ c.requires.fewer c.requires.room c.decode_normal_index-i.ensures c.decode_normal_rho_w.ensures
    c.downgrade_rho_w-r.ensures c.raise_register.ensures

pub raise_register-requires-else-is_rho_encoded : goal.raise_register-requires-else-is_rho_encoded
raise_register-requires-else-is_rho_encoded c =
    plain_held c.args.enc.normal_precision c.args.enc.sparse_precision c.args.d c.args.v (sym c.is_rho_encoded.ensures ∙ c.if-is_rho_encoded.false)
    c.args.enc.pair c.requires.ok c.requires.fewer c.args.registers.now c.requires.room

pub returns-else-is_rho_encoded : goal.returns-else-is_rho_encoded
returns-else-is_rho_encoded c =
    set_plain c.args.enc.normal_precision c.args.enc.sparse_precision c.args.d c.args.v (sym c.is_rho_encoded.ensures ∙ c.if-is_rho_encoded.false)
    c.args.enc.pair c.requires.ok c.requires.fewer c.compute_rho_w-r.result c.args.registers.now _ c.requires.room c.compute_rho_w-r.ensures
    c.raise_register-else-is_rho_encoded.ensures
