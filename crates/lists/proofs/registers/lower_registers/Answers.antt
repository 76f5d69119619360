use Rattle.std.proofs.Common.{◌-◌, ◌^◌, ◌<◌, arith, rules}
use Rattle.lists.proofs.RegisterLaws.{lower_start, lower_block, lower_turn, lower_holds, lower_end, lower_whole, fewer_bytes}
use Rattle.lists.proofs.registers.lower_registers.Goals as goal

pub loop-t-init : goal.loop-t-init
loop-t-init c = lower_start c.args.p c.args.d c.args.registers.now c.requires

pub lowered_block-r-requires : goal.lowered_block-r-requires
lowered_block-r-requires c = let l = c.loop-t in
    lower_block c.args.p c.args.d c.args.registers.now c.requires l.registers l.t (omega arith) l.invariant

pub store_register-requires : goal.store_register-requires
store_register-requires c = let l = c.loop-t in
    lower_holds c.args.p c.args.d c.args.registers.now c.requires l.registers l.t (omega arith) l.invariant

pub loop-t-preserved : goal.loop-t-preserved
loop-t-preserved c = let l = c.loop-t in
    lower_turn c.args.p c.args.d c.args.registers.now c.requires l.registers l.t
    (let h : l.t < 2 ^ (c.args.p - c.args.d) = omega arith in h) l.invariant _ c.lowered_block-r.result c.lowered_block-r.ensures
    c.store_register.ensures

pub slice_bounds-fill-count : goal.slice_bounds-fill-count
slice_bounds-fill-count c = omega (arith, fewer_bytes (c.args.p - c.args.d) c.args.p (omega arith))

pub slice_bounds-fill-start : goal.slice_bounds-fill-start
slice_bounds-fill-start c = omega (arith, fewer_bytes (c.args.p - c.args.d) c.args.p (omega arith))

pub returns : goal.returns
returns c = let l = c.loop-t in
    lower_whole c.args.p c.args.d c.args.registers.now c.requires l.registers c.fill.new.self c.register_bytes.result c.register_bytes-2.result
    c.register_bytes.ensures.0 c.register_bytes-2.ensures.0
    (lower_end c.args.p c.args.d c.args.registers.now c.requires l.registers l.t (omega arith) l.invariant) (search rules)
