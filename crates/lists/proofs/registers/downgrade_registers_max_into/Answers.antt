use Rattle.std.proofs.Common.{◌^◌, ◌<◌, arith}
use Rattle.lists.proofs.RegisterLaws.{downgrade_start, downgrade_block, downgrade_turn, done_end}
use Rattle.lists.proofs.registers.downgrade_registers_max_into.Goals as goal

pub loop-t-init : goal.loop-t-init
loop-t-init c = downgrade_start c.args.q c.args.d c.args.source.now c.args.target.now c.requires

pub lowered_block-requires : goal.lowered_block-requires
lowered_block-requires c = downgrade_block c.args.q c.args.d c.args.source.now c.args.target.now c.requires c.loop-t.t (omega arith)

pub loop-t-preserved : goal.loop-t-preserved
loop-t-preserved c = let l = c.loop-t in
    downgrade_turn c.args.q c.args.d c.args.source.now c.args.target.now c.requires l.target _ l.t
    c.lowered_block.result (let h : l.t < 2 ^ c.args.q = omega arith in h) l.invariant c.lowered_block.ensures c.raise_register.ensures

pub returns : goal.returns
returns c = let l = c.loop-t in
    done_end c.args.q _ _ _ l.t l.invariant (omega arith)
