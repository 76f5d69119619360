use Rattle.std.proofs.Common.{ℕ, ◌-◌, List, get_or, sym, refl, ap, ◌∙◌}
use Rattle.lists.specs.Registers.{registers_of, with_registers}
use Rattle.lists.proofs.RankLaws.{lower_with, lower_index, lower_rank}
use Rattle.lists.proofs.MergeLaws.{valid_at}
use Rattle.lists.proofs.RegisterLaws.{setting_none, setting_room, setting_turn, setting_end}
use Rattle.lists.proofs.registers.set_registers.Goals as goal

pub loop-v-init : goal.loop-v-init
loop-v-init c = setting_none (c.args.enc.normal_precision - c.args.d) _ _ _ c.args.registers.now c.requires.room

pub set_register-requires : goal.set_register-requires
set_register-requires c = let l = c.loop-v in
    record {
      ok = valid_at c.args.enc.normal_precision c.args.enc.sparse_precision c.args.list.now l.v-index c.requires.ok c.loop-v-test.true;
      few = c.requires.few;
      fewer = c.requires.fewer;
      room = setting_room (c.args.enc.normal_precision - c.args.d) (lower_index c.args.enc.normal_precision c.args.enc.sparse_precision c.args.d) (lower_rank c.args.enc.normal_precision c.args.enc.sparse_precision c.args.d) _ _ _ l.v-index l.invariant;
    }

pub loop-v-preserved : goal.loop-v-preserved
loop-v-preserved c = let l = c.loop-v in
    setting_turn (c.args.enc.normal_precision - c.args.d) (lower_index c.args.enc.normal_precision c.args.enc.sparse_precision c.args.d) (lower_rank c.args.enc.normal_precision c.args.enc.sparse_precision c.args.d) _ _ _ l.v-index l.invariant
    (get_or c.args.list.now l.v-index 0) _ c.loop-v-test.true refl c.set_register.ensures

pub returns : goal.returns
returns c = let l = c.loop-v in
    setting_end (c.args.enc.normal_precision - c.args.d) (lower_index c.args.enc.normal_precision c.args.enc.sparse_precision c.args.d) (lower_rank c.args.enc.normal_precision c.args.enc.sparse_precision c.args.d) _ _ _ l.v-index l.invariant c.loop-v-test.false
    ∙ ap (λ (l : List ℕ). with_registers (c.args.enc.normal_precision - c.args.d) l c.args.registers.now)
    (sym (lower_with c.args.enc.normal_precision c.args.enc.sparse_precision c.args.d (registers_of (c.args.enc.normal_precision - c.args.d) c.args.registers.now) c.args.list.now))
