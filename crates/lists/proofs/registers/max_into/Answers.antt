use Rattle.std.proofs.Common.{◌^◌, ◌<◌, arith}
use Rattle.lists.proofs.RegisterLaws.{max_start, max_turn, done_end}
use Rattle.lists.proofs.registers.max_into.Goals as goal

pub loop-i-init : goal.loop-i-init
loop-i-init c = max_start c.args.p c.args.target.now c.args.source.now c.requires

pub loop-i-preserved : goal.loop-i-preserved
loop-i-preserved c = let l = c.loop-i in
    max_turn c.args.p c.args.target.now c.args.source.now c.requires l.target _ l.i c.read_register.result
    (let h : l.i < 2 ^ c.args.p = omega arith in h) l.invariant c.read_register.ensures c.raise_register.ensures

pub returns : goal.returns
returns c = let l = c.loop-i in
    done_end c.args.p _ _ _ l.i l.invariant (omega arith)
