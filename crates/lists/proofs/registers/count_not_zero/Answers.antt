use Rattle.std.proofs.Common.{◌^◌, ◌<◌, arith}
use Rattle.lists.specs.Registers.{registers_of}
use Rattle.lists.proofs.RegisterLaws.{of_length, count_turn, count_end}
use Rattle.lists.proofs.registers.count_not_zero.Goals as goal

pub loop-i-preserved : goal.loop-i-preserved
loop-i-preserved c = let l = c.loop-i in
    let h : l.i < 2 ^ c.args.p = omega arith in
    count_turn (registers_of c.args.p c.args.registers.now) l.count l.i c.from-count.result c.read_register.result
    (omega (arith, of_length c.args.p c.args.registers.now c.requires.room, h))
    (c.read_register.ensures.value c.args.p c.requires.room h) c.from-count.ensures l.invariant

pub returns : goal.returns
returns c = let l = c.loop-i in
    count_end (registers_of c.args.p c.args.registers.now) l.count l.i
    (omega (arith, of_length c.args.p c.args.registers.now c.requires.room)) l.invariant
