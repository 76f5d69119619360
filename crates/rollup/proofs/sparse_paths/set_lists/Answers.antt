-- One list after the other is set, which is both as one (`both_set`).
use Rattle.lists.proofs.RegisterLaws.{set_own}
use Rattle.rollup.proofs.SparseLaws.{both_set}
use Rattle.rollup.proofs.sparse_paths.set_lists.Goals as goal

pub returns : goal.returns
returns c =
    let p = c.args.enc.normal_precision in
    let s = c.args.enc.sparse_precision in
    both_set p s c.args.registers.now c.requires.room c.args.kept.now c.args.waiting.now _ _ c.set_list.ensures (set_own p s c.args.waiting.now _ _ c.set_registers.ensures)
