-- The list is set in cleared registers (`cleared_set`).
use Rattle.lists.proofs.RegisterLaws.{set_none_room, set_own}
use Rattle.rollup.proofs.SparseLaws.{cleared_set}
use Rattle.rollup.proofs.sparse_paths.set_list.Goals as goal

pub returns : goal.returns
returns c = let p = c.args.enc.normal_precision in
    let s = c.args.enc.sparse_precision in
    cleared_set p s c.args.registers.now (set_none_room c.args.enc c.args.list.now c.args.registers.now c.requires) c.args.list.now _ _ c.clear_registers.ensures (set_own p s c.args.list.now _ _ c.set_registers.ensures)
